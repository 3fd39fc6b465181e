-- Lists of calls that do what the definitions say: how they run.
use mathlib.Core.Path.{◌≡◌, refl, ap, ◌∙◌}
use mathlib.Core.List.{List, [], ◌∷◌}
use Rattle.calls.specs.Arguments.{Call, PerStream, Buffers}
use Rattle.slice.specs.Calls.{Coded, encode, Decoded, decode}
use Rattle.slice.specs.CallLists.{CodedAll, Coding, coded_none, coded_then, DecodedAll, Reading, read_none, read_then}

unfoldable pub encode_all : List Call → Buffers → PerStream → CodedAll
encode_all [] b at = record { answers = []; at = at; buffers = b }
encode_all (c ∷ cs) b at =
    let one = encode c b at in
    let rest = encode_all cs one.buffers one.at in
    record { answers = record { number = one.number; at = one.at } ∷ rest.answers; at = rest.at; buffers = rest.buffers }

unfoldable pub decode_all : List Call → Buffers → PerStream → DecodedAll
decode_all [] b at = record { answers = []; at = at }
decode_all (c ∷ cs) b at =
    let one = decode c b at in
    let rest = decode_all cs b one.at in
    record { answers = one ∷ rest.answers; at = rest.at }

-- calls whose results are the definitions' run as they do
pub coded_so : (Step : Call → Buffers → PerStream → Coded → Type 0) → ((c : Call) (b : Buffers) (at : PerStream) (r : Coded) → Step c b at r → r ≡ encode c b at)
    → {cs : List Call} {b : Buffers} {at : PerStream} {k : CodedAll} → Coding Step cs b at k → k ≡ encode_all cs b at
unfolding encode_all
coded_so Step is coded_none = refl
coded_so Step is (coded_then {c} {cs} {b} {at} {one} {rest} s t) =
    ap (λ (k : CodedAll). record { answers = record { number = one.number; at = one.at } ∷ k.answers; at = k.at; buffers = k.buffers }) (coded_so Step is t)
    ∙ ap (λ (x : Coded). record {
      answers = record { number = x.number; at = x.at } ∷ (encode_all cs x.buffers x.at).answers;
      at = (encode_all cs x.buffers x.at).at;
      buffers = (encode_all cs x.buffers x.at).buffers;
    }) (is c b at one s)

pub read_so : (Step : Call → Buffers → PerStream → Decoded → Type 0) → ((c : Call) (b : Buffers) (at : PerStream) (r : Decoded) → Step c b at r → r ≡ decode c b at)
    → {cs : List Call} {b : Buffers} {at : PerStream} {k : DecodedAll} → Reading Step cs b at k → k ≡ decode_all cs b at
unfolding decode_all
read_so Step is read_none = refl
read_so Step is (read_then {c} {cs} {b} {at} {one} {rest} s t) =
    ap (λ (k : DecodedAll). record { answers = one ∷ k.answers; at = k.at }) (read_so Step is t)
    ∙ ap (λ (x : Decoded). record { answers = x ∷ (decode_all cs b x.at).answers; at = (decode_all cs b x.at).at }) (is c b at one s)

-- and each list has such a run
pub encode_runs : (cs : List Call) (b : Buffers) (at : PerStream) → Coding (λ c b at r. r ≡ encode c b at) cs b at (encode_all cs b at)
unfolding encode_all
encode_runs [] b at = coded_none
encode_runs (c ∷ cs) b at = coded_then refl (encode_runs cs (encode c b at).buffers (encode c b at).at)

pub decode_runs : (cs : List Call) (b : Buffers) (at : PerStream) → Reading (λ c b at r. r ≡ decode c b at) cs b at (decode_all cs b at)
unfolding decode_all
decode_runs [] b at = read_none
decode_runs (c ∷ cs) b at = read_then refl (decode_runs cs b (decode c b at).at)
