-- The contracts allow a run of every list of calls: so the lists that demand 3 speaks of are there.
use mathlib.Core.Path.{◌≡◌, refl, ap, subst}
use mathlib.Core.List.{List, [], ◌∷◌}
use Prim.Native.Nat.{ℕ, zero, suc}
use native.Mathlib.Omega.{arith}
use lib.ListN.{length}
use contract.Lifetimes.{Lfts}
use denote.Ref.{Bor, MutBor}
use Rattle.ask.specs.Ask.{first_no}
use Rattle.calls.specs.Arguments.{Depth, eight, ten, Settings, Rows, Plane, Call, one_plane, one_slice, settings_of, planes_lent, planes_of, PerStream, Buffers, lengths_of, settings}
use Rattle.calls.specs.ReadPlane.{BlockRead}
use Rattle.calls.specs.Questions.{reading_questions}
use Rattle.slice.specs.Calls.{encode, PlanesRead, bad_planes, planes_read, read_planes, rows_of, rows_made, Decoded, decoded_by, decode}
use Rattle.slice.specs.CallLists.{Coding, coded_none, coded_then, Reading, read_none, read_then}
use Rattle.slice.proofs.Runs.{encode_all, decode_all}
use Rattle.vmx.proofs.Steps.{Streams, FourRows, Codes, codes_plane8, codes_plane10, codes_slice8, codes_slice10}
use Rattle.vmx.proofs.ReadSteps.{ReadStreams, FourOut, Reads, reads_plane8, reads_plane10, reads_slice8, reads_slice10}

-- ---- lent values
abbrev lent : {X : Type 0} → X → Bor X
lent x = record { ref_ptr = (0, 0); now = x }

abbrev lent_out : {X : Type 0} → X → MutBor X
lent_out x = record { ref_ptr = (0, 0); ghost_name = 0; now = x }

abbrev streams : Buffers → PerStream → Streams
streams b at = record { dc = lent_out b.dc_bytes; dc_at = lent_out at.dc; ac = lent_out b.ac_bytes; ac_at = lent_out at.ac }

abbrev read_streams : Buffers → PerStream → ReadStreams
read_streams b at = record { dc = lent b.dc_bytes; dc_at = lent_out at.dc; ac = lent b.ac_bytes; ac_at = lent_out at.ac }

abbrev five : Lfts 5
five = ([], ([], ([], ([], ([], tt)))))

abbrev eight_lifetimes : Lfts 8
eight_lifetimes = ([], ([], ([], five)))

abbrev four_rows : Rows → Rows → Rows → Rows → FourRows
four_rows p q r s =
    record {
      p0 = lent p.samples;
      stride0 = p.stride;
      p1 = lent q.samples;
      stride1 = q.stride;
      p2 = lent r.samples;
      stride2 = r.stride;
      p3 = lent s.samples;
      stride3 = s.stride;
    }

abbrev four_out : Rows → Rows → Rows → Rows → FourOut
four_out p q r s =
    record {
      p0 = lent_out p.samples;
      stride0 = p.stride;
      p1 = lent_out q.samples;
      stride1 = q.stride;
      p2 = lent_out r.samples;
      stride2 = r.stride;
      p3 = lent_out s.samples;
      stride3 = s.stride;
    }

-- ---- coding
plane_codes : (d : Depth) (preset shift : ℕ) (p : Plane) (b : Buffers) (at : PerStream)
    → let c = one_plane (settings d preset shift) p in Codes c b at (encode c b at)
plane_codes eight preset shift p b at =
    let e = encode (one_plane (settings eight preset shift) p) b at in
    codes_plane8 five (lent p.samples) p.stride p.place preset shift (streams b at) e.number (streams e.buffers e.at) refl
plane_codes ten preset shift p b at =
    let e = encode (one_plane (settings ten preset shift) p) b at in
    codes_plane10 five (lent p.samples) p.stride p.place preset shift (streams b at) e.number (streams e.buffers e.at) refl

slice_codes : (d : Depth) (preset shift count : ℕ) (p q r s : Rows) (b : Buffers) (at : PerStream)
    → let c = one_slice (settings d preset shift) count p q r s in Codes c b at (encode c b at)
slice_codes eight preset shift count p q r s b at =
    let e = encode (one_slice (settings eight preset shift) count p q r s) b at in
    codes_slice8 eight_lifetimes (four_rows p q r s) count preset shift (streams b at) e.number (streams e.buffers e.at) refl
slice_codes ten preset shift count p q r s b at =
    let e = encode (one_slice (settings ten preset shift) count p q r s) b at in
    codes_slice10 eight_lifetimes (four_rows p q r s) count preset shift (streams b at) e.number (streams e.buffers e.at) refl

pub every_call_codes : (c : Call) (b : Buffers) (at : PerStream) → Codes c b at (encode c b at)
every_call_codes (one_plane σ p) b at = plane_codes σ.depth σ.preset σ.shift p b at
every_call_codes (one_slice σ n p q r s) b at = slice_codes σ.depth σ.preset σ.shift n p q r s b at

pub coding_runs : (cs : List Call) (b : Buffers) (at : PerStream) → Coding Codes cs b at (encode_all cs b at)
unfolding encode_all
coding_runs [] b at = coded_none
coding_runs (c ∷ cs) b at = coded_then (every_call_codes c b at) (coding_runs cs (encode c b at).buffers (encode c b at).at)

-- ---- reading: a call has as many rows at exit as planes were lent
rows_of_lem : (ps : List Plane) → length (rows_of ps) ≡ length ps
rows_of_lem [] = refl
rows_of_lem (p ∷ ps) = ap suc (rows_of_lem ps)

rows_made_lem : (σ : Settings) (ps : List Plane) (bs : List (List BlockRead)) → length (rows_made σ ps bs) ≡ length ps
unfolding rows_made
rows_made_lem σ [] bs = refl
rows_made_lem σ (p ∷ ps) [] = rows_of_lem (p ∷ ps)
rows_made_lem σ (p ∷ ps) (b ∷ bs) = ap suc (rows_made_lem σ ps bs)

rows_by_lem : (n : ℕ) (c : Call) (at : PerStream) (r : PlanesRead) → length (decoded_by n c at r).rows ≡ length (planes_lent c)
rows_by_lem (suc n) c at r = rows_of_lem (planes_lent c)
rows_by_lem zero c at bad_planes = rows_of_lem (planes_lent c)
rows_by_lem zero c at (planes_read bs end) = rows_made_lem (settings_of c) (planes_lent c) bs

as_lent : (c : Call) (b : Buffers) (at : PerStream) → length (decode c b at).rows ≡ length (planes_lent c)
unfolding decode
as_lent c b at = rows_by_lem (first_no (reading_questions c (lengths_of b) at)) c at (read_planes (settings_of c).shift (planes_of c) b at)

-- its rows one by one
abbrev nth : ℕ → List (List ℕ) → List ℕ
nth n [] = []
nth zero (x ∷ xs) = x
nth (suc n) (x ∷ xs) = nth n xs

one_row : (l : List (List ℕ)) → length l ≡ 1 → nth 0 l ∷ [] ≡ l
one_row [] e = absurd (omega arith)
one_row (x ∷ []) e = refl
one_row (x ∷ y ∷ l) e = absurd (omega arith)

four_rows_lem : (l : List (List ℕ)) → length l ≡ 4 → nth 0 l ∷ nth 1 l ∷ nth 2 l ∷ nth 3 l ∷ [] ≡ l
four_rows_lem [] e = absurd (omega arith)
four_rows_lem (x ∷ []) e = absurd (omega arith)
four_rows_lem (x ∷ y ∷ []) e = absurd (omega arith)
four_rows_lem (x ∷ y ∷ z ∷ []) e = absurd (omega arith)
four_rows_lem (x ∷ y ∷ z ∷ w ∷ []) e = refl
four_rows_lem (x ∷ y ∷ z ∷ w ∷ v ∷ l) e = absurd (omega arith)

abbrev with_rows : Decoded → List (List ℕ) → Decoded
with_rows e l = record { number = e.number; at = e.at; rows = l }

-- the rows of a slice's planes at exit
abbrev rows_after : Rows → Rows → Rows → Rows → List (List ℕ) → FourOut
rows_after p q r s l =
    record {
      p0 = lent_out (nth 0 l);
      stride0 = p.stride;
      p1 = lent_out (nth 1 l);
      stride1 = q.stride;
      p2 = lent_out (nth 2 l);
      stride2 = r.stride;
      p3 = lent_out (nth 3 l);
      stride3 = s.stride;
    }

plane_reads : (d : Depth) (preset shift : ℕ) (p : Plane) (b : Buffers) (at : PerStream)
    → let c = one_plane (settings d preset shift) p in Reads c b at (decode c b at)
plane_reads eight preset shift p b at =
    let c = one_plane (settings eight preset shift) p in
    let e = decode (one_plane (settings eight preset shift) p) b at in
    let h = ap (with_rows e) (one_row e.rows (as_lent c b at)) in
    subst (Reads c b at) h
    (reads_plane8 five (lent_out p.samples) p.stride p.place preset shift (read_streams b at) e.number (lent_out (nth 0 e.rows)) (read_streams b e.at) h)
plane_reads ten preset shift p b at =
    let c = one_plane (settings ten preset shift) p in
    let e = decode (one_plane (settings ten preset shift) p) b at in
    let h = ap (with_rows e) (one_row e.rows (as_lent c b at)) in
    subst (Reads c b at) h
    (reads_plane10 five (lent_out p.samples) p.stride p.place preset shift (read_streams b at) e.number (lent_out (nth 0 e.rows)) (read_streams b e.at) h)

slice_reads : (d : Depth) (preset shift count : ℕ) (p q r s : Rows) (b : Buffers) (at : PerStream)
    → let c = one_slice (settings d preset shift) count p q r s in Reads c b at (decode c b at)
slice_reads eight preset shift count p q r s b at =
    let c = one_slice (settings eight preset shift) count p q r s in
    let e = decode (one_slice (settings eight preset shift) count p q r s) b at in
    let h = ap (with_rows e) (four_rows_lem e.rows (as_lent c b at)) in
    subst (Reads c b at) h
    (reads_slice8 eight_lifetimes (four_out p q r s) count preset shift (read_streams b at) e.number (rows_after p q r s e.rows) (read_streams b e.at) h)
slice_reads ten preset shift count p q r s b at =
    let c = one_slice (settings ten preset shift) count p q r s in
    let e = decode (one_slice (settings ten preset shift) count p q r s) b at in
    let h = ap (with_rows e) (four_rows_lem e.rows (as_lent c b at)) in
    subst (Reads c b at) h
    (reads_slice10 eight_lifetimes (four_out p q r s) count preset shift (read_streams b at) e.number (rows_after p q r s e.rows) (read_streams b e.at) h)

pub every_call_reads : (c : Call) (b : Buffers) (at : PerStream) → Reads c b at (decode c b at)
every_call_reads (one_plane σ p) b at = plane_reads σ.depth σ.preset σ.shift p b at
every_call_reads (one_slice σ n p q r s) b at = slice_reads σ.depth σ.preset σ.shift n p q r s b at

pub reading_runs : (cs : List Call) (b : Buffers) (at : PerStream) → Reading Reads cs b at (decode_all cs b at)
unfolding decode_all
reading_runs [] b at = read_none
reading_runs (c ∷ cs) b at = read_then (every_call_reads c b at) (reading_runs cs b (decode c b at).at)
