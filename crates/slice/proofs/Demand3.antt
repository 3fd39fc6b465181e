-- Demand 3 holds.
use mathlib.Core.Path.{◌≡◌, refl, sym, ap, ◌∙◌, subst}
use mathlib.Core.List.{List, [], ◌∷◌, ◌++◌, map, append_assoc, append-nil}
use Prim.Native.Nat.{ℕ, zero, suc, ◌+◌, ◌≤◌}
use native.Mathlib.Omega.{arith}
use lib.ListN.{length, take, length-append}
use lib.Seq.{length-take-le}
use Rattle.bits.specs.Lay.{lay}
use Rattle.bits.proofs.LayLaw.{lay_take}
use Rattle.calls.specs.Arguments.{Settings, Plane, Call, settings_of, planes_of, PerStream, Buffers, lengths_of}
use Rattle.slice.specs.Plane.{coefficients}
use Rattle.calls.specs.Questions.{together}
use Rattle.calls.specs.Legal.{LegalSettings, LegalPlane, Every}
use Rattle.slice.specs.Calls.{own_streams, Coded, encode, Decoded, decode}
use Rattle.slice.specs.CallLists.{CodedAll, DecodedAll, Book, empty_book, Fed, book_at, book_number, put_behind, book_by, book_next, book_after, book_answers, if_accepted, AtThese, planes_coded, OneSetting, blocks_read, Follows}
use Rattle.slice.specs.Demand3.{fed, book, planes, read_from, CodingHalf, PlanesBack, ReadingHalf, Demand3}
use Rattle.slice.proofs.Runs.{encode_all, decode_all, coded_so, read_so}
use Rattle.slice.proofs.Legal.{coding_legal}
use Rattle.slice.proofs.CodeList.{room, with, from_empty, coding}
use Rattle.slice.proofs.BlocksBack.{AllFine, fine_join}
use Rattle.slice.proofs.ReadList.{own_append, Back, Lies, nothing, lies, list_read}

fine_of : (σ : Settings) (ps : List Plane) → LegalSettings σ → Every LegalPlane ps → AllFine σ ps
fine_of σ [] s l = tt
fine_of σ (p ∷ ps) s l =
    (record { preset_le = s.preset_le; shift_le = s.shift_le; few = omega (arith, l.0.stride_le) }, fine_of σ ps s l.1)

-- ---- the book's rows are the accepted planes' own streams joined in order
join_by : (n : ℕ) (σ : Settings) (f : Fed) (k : Book) (c : Call) (cs : List Call) → AtThese σ n c
    → book_after f (book_by n c k) cs ≡ put_behind (book_by n c k) (own_streams σ (planes_coded f (book_by n c k) cs))
    → book_after f (book_by n c k) cs ≡ put_behind k (own_streams σ (if_accepted n (planes_of c) ++ planes_coded f (book_by n c k) cs))
join_by (suc n) σ f k c cs s e = e
join_by zero σ f k c cs s e =
    e ∙ ap (λ (s' : Settings). put_behind (put_behind k (own_streams s' (planes_of c))) X) s
    ∙ (λ i. record { dc_row = append_assoc k.dc_row O.dc_bytes X.dc_bytes i; ac_row = append_assoc k.ac_row O.ac_bytes X.ac_bytes i })
    ∙ ap (put_behind k) (sym (own_append σ (planes_of c) (planes_coded f (book_by 0 c k) cs)))
  where
    X : Buffers
    X = own_streams σ (planes_coded f (book_by 0 c k) cs)

    O : Buffers
    O = own_streams σ (planes_of c)

own_joined : (σ : Settings) (f : Fed) (k : Book) (cs : List Call) → OneSetting σ f k cs
    → book_after f k cs ≡ put_behind k (own_streams σ (planes_coded f k cs))
unfolding book_after planes_coded OneSetting own_streams
own_joined σ f k [] w = sym (λ i. record { dc_row = append-nil k.dc_row i; ac_row = append-nil k.ac_row i })
own_joined σ f k (c ∷ cs) w = join_by (book_number f k c) σ f k c cs w.0 (own_joined σ f (book_next f k c) cs w.1)

-- ---- each was found to be one that can be coded
fine_by : (n : ℕ) (σ : Settings) (f : Fed) (k : Book) (c : Call) → book_number f k c ≡ n → AtThese σ n c → AllFine σ (if_accepted n (planes_of c))
unfolding book_number
fine_by (suc n) σ f k c e s = tt
fine_by zero σ f k c e s =
    let y = (coding_legal c f.lengths (book_at f k) e).legal in
    subst (λ (s' : Settings). AllFine s' (planes_of c)) s (fine_of (settings_of c) (planes_of c) y.settings y.planes)

all_fine : (σ : Settings) (f : Fed) (k : Book) (cs : List Call) → OneSetting σ f k cs → AllFine σ (planes_coded f k cs)
unfolding planes_coded OneSetting
all_fine σ f k [] w = tt
all_fine σ f k (c ∷ cs) w =
    fine_join σ (if_accepted (book_number f k c) (planes_of c)) (planes_coded f (book_next f k c) cs)
    (fine_by (book_number f k c) σ f k c refl w.0) (all_fine σ f (book_next f k c) cs w.1)

-- ---- the streams lie where reading starts
module _ (b : Buffers) (starts : PerStream) where
  -- nothing was coded, or both rows lie in the buffers
  data Placed (k : Book) (ps : List Plane) : Type 0 where
    no_plane_lem : ps ≡ [] → Placed k ps
    placed : starts.dc + length k.dc_row ≤ length b.dc_bytes → starts.ac + length k.ac_row ≤ length b.ac_bytes → Placed k ps

  abbrev F : Fed
  F = fed b starts

  placed_by : (n : ℕ) (k : Book) (ps : List Plane) (c : Call) → book_number F k c ≡ n → Placed k ps → Placed (book_by n c k) (ps ++ if_accepted n (planes_of c))
  unfolding book_number
  placed_by (suc n) k ps c e h = subst (Placed k) (sym (append-nil ps)) h
  placed_by zero k ps c e h =
      let r = room c F.lengths (book_at F k) e in
      let O = own_streams (settings_of c) (planes_of c) in
      placed (omega (arith, r.0, length-append k.dc_row O.dc_bytes)) (omega (arith, r.1, length-append k.ac_row O.ac_bytes))

  all_placed : (cs : List Call) (k : Book) (ps : List Plane) → Placed k ps → Placed (book_after F k cs) (ps ++ planes_coded F k cs)
  unfolding book_after planes_coded
  all_placed [] k ps h = subst (Placed k) (sym (append-nil ps)) h
  all_placed (c ∷ cs) k ps h =
      subst (Placed (book_after F (book_next F k c) cs)) (append_assoc ps (if_accepted (book_number F k c) (planes_of c)) (planes_coded F (book_next F k c) cs))
      (all_placed cs (book_next F k c) (ps ++ if_accepted (book_number F k c) (planes_of c)) (placed_by (book_number F k c) k ps c refl h))

  -- what the list of calls left, as the book has it
  abbrev left : Book → List Call → CodedAll
  left k cs = record { answers = book_answers F empty_book cs; at = book_at F k; buffers = with b starts k }

  start_lies : (σ : Settings) (cs : List Call) (appended : Buffers) (k : Book) (ps : List Plane) → k ≡ put_behind empty_book (own_streams σ ps) → Placed k ps
      → Lies σ (read_from (left k cs) appended) starts ps
  start_lies σ cs appended k ps e (no_plane_lem h) = nothing h
  start_lies σ cs appended k ps e (placed hd ha) =
      lies (take starts.dc b.dc_bytes) appended.dc_bytes (take starts.ac b.ac_bytes) appended.ac_bytes
      (piece b.dc_bytes starts.dc k.dc_row appended.dc_bytes hd ∙ ap (λ (x : Book). take starts.dc b.dc_bytes ++ (x.dc_row ++ appended.dc_bytes)) e)
      (piece b.ac_bytes starts.ac k.ac_row appended.ac_bytes ha ∙ ap (λ (x : Book). take starts.ac b.ac_bytes ++ (x.ac_row ++ appended.ac_bytes)) e)
      (sym (length-take-le starts.dc b.dc_bytes (omega arith))) (sym (length-take-le starts.ac b.ac_bytes (omega arith)))
    where
      piece : (l : List ℕ) (i : ℕ) (row more : List ℕ) → i + length row ≤ length l → take (i + length row) (lay l i row) ++ more ≡ take i l ++ (row ++ more)
      piece l i row more h = ap (λ (x : List ℕ). x ++ more) (lay_take l i row (omega arith)) ∙ append_assoc (take i l) row more

-- ---- both halves, of the definitions' own runs
reading : (cs : List Call) (b : Buffers) (starts : PerStream) (σ : Settings) → OneSetting σ (fed b starts) empty_book cs
    → (appended : Buffers) (rs : List Call)
    → Follows σ (planes cs b starts) rs (read_from (encode_all cs b starts) appended) starts (decode_all rs (read_from (encode_all cs b starts) appended) starts).answers
    → ReadingHalf σ (planes cs b starts) rs (read_from (encode_all cs b starts) appended) starts (decode_all rs (read_from (encode_all cs b starts) appended) starts)
reading cs b starts σ w appended rs follows = go (list_read σ rs (planes cs b starts) streams starts (all_fine σ (fed b starts) empty_book cs w) there follows)
  where
    streams : Buffers
    streams = read_from (encode_all cs b starts) appended

    there : Lies σ streams starts (planes cs b starts)
    there =
        subst (λ (x : CodedAll). Lies σ (read_from x appended) starts (planes cs b starts)) (sym (from_empty b starts cs).0)
        (start_lies b starts σ cs appended (book cs b starts) (planes cs b starts) (own_joined σ (fed b starts) empty_book cs w) (all_placed b starts cs empty_book [] (no_plane_lem refl)))

    go : Back σ (planes cs b starts) rs streams starts → ReadingHalf σ (planes cs b starts) rs streams starts (decode_all rs streams starts)
    go r =
        record {
          all_answered = r.answered;
          coefficients_back = subst (λ (l : List Plane). PlanesBack σ.shift (map (coefficients σ) l) (blocks_read rs streams starts (decode_all rs streams starts).answers)) (sym r.is_done) r.back;
          positions = r.positions ∙ ap (λ (l : List Plane). together starts (lengths_of (own_streams σ l))) (sym r.is_done);
        }

-- ---- demand 3, of all calls whose results are the definitions'
module _ (Codes : Call → Buffers → PerStream → Coded → Type 0) (Reads : Call → Buffers → PerStream → Decoded → Type 0)
    (codes_so : (c : Call) (b : Buffers) (at : PerStream) (r : Coded) → Codes c b at r → r ≡ encode c b at)
    (reads_so : (c : Call) (b : Buffers) (at : PerStream) (r : Decoded) → Reads c b at r → r ≡ decode c b at) where
  read_half : (cs : List Call) (b : Buffers) (starts : PerStream) (k : CodedAll) → k ≡ encode_all cs b starts
      → (σ : Settings) → OneSetting σ (fed b starts) empty_book cs → (appended : Buffers) (rs : List Call) (r : DecodedAll) → r ≡ decode_all rs (read_from k appended) starts
      → Follows σ (planes cs b starts) rs (read_from k appended) starts r.answers → ReadingHalf σ (planes cs b starts) rs (read_from k appended) starts r
  read_half cs b starts k ek σ w appended rs r er follows =
      subst (λ (x : CodedAll). Claim x r) (sym ek)
      (subst (Claim (encode_all cs b starts)) (sym moved)
      (reading cs b starts σ w appended rs
      (subst (λ (x : DecodedAll). Follows σ (planes cs b starts) rs (read_from (encode_all cs b starts) appended) starts x.answers) moved
      (subst (λ (x : CodedAll). Follows σ (planes cs b starts) rs (read_from x appended) starts r.answers) ek follows))))
    where
      Claim : CodedAll → DecodedAll → Type 0
      Claim x y = ReadingHalf σ (planes cs b starts) rs (read_from x appended) starts y

      moved : r ≡ decode_all rs (read_from (encode_all cs b starts) appended) starts
      moved = er ∙ ap (λ (x : CodedAll). decode_all rs (read_from x appended) starts) ek

  pub demand3 : Demand3 Codes Reads
  demand3 =
      record {
        coding = λ cs b starts k t. subst (CodingHalf cs b starts) (sym (coded_so Codes codes_so t)) (coding cs b starts);
        own_streams_lem = λ cs b starts σ w. own_joined σ (fed b starts) empty_book cs w;
        reading = λ cs b starts k t σ w appended rs r u follows. read_half cs b starts k (coded_so Codes codes_so t) σ w appended rs r (read_so Reads reads_so u) follows;
      }

-- of the definitions themselves
pub of_definitions : Demand3 (λ c b at r. r ≡ encode c b at) (λ c b at r. r ≡ decode c b at)
of_definitions = demand3 (λ c b at r. r ≡ encode c b at) (λ c b at r. r ≡ decode c b at) (λ c b at r e. e) (λ c b at r e. e)
