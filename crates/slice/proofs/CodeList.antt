-- A list of coding calls does what the book says.
use mathlib.Core.Path.{◌≡◌, refl, sym, ap, ◌∙◌, subst}
use mathlib.Core.List.{List, [], ◌∷◌, ◌++◌}
use Prim.Native.Nat.{ℕ, zero, suc, ◌+◌, ◌≤◌}
use native.Mathlib.Nat.{add-zero, add_assoc}
use native.Mathlib.Omega.{arith}
use lib.ListN.{length, take, drop, length-append}
use lib.Seq.{take_at, drop_at, length-take-le}
use Rattle.bits.specs.Lay.{lay}
use Rattle.bits.proofs.LayLaw.{lay_none, lay_length, lay_drop, lay_lay}
use Rattle.ask.specs.Ask.{first_no}
use Rattle.calls.specs.Arguments.{Settings, Plane, Call, settings_of, planes_of, PerStream, Buffers, lengths_of}
use Rattle.slice.specs.Calls.{Coded, own_streams, coded_by, encode}
use Rattle.slice.specs.CallLists.{CodedAll, Book, empty_book, Fed, book_at, book_number, book_by, book_next, book_after, book_answers}
use Rattle.slice.specs.Demand3.{Written, fed, CodingHalf}
use Rattle.slice.proofs.Law.{dc_fits, ac_fits}
use Rattle.slice.proofs.Runs.{encode_all}
use Rattle.slice.proofs.Legal.{coding_legal}
use Rattle.slice.specs.Room.{room_for_all, coding_questions}

-- ---- a row that lies in a buffer, or is none
pub data Sits (l : List ℕ) (i : ℕ) (row : List ℕ) : Type 0 where
  none : row ≡ [] → Sits l i row
  sits : i + length row ≤ length l → Sits l i row

same_length : (l : List ℕ) (i : ℕ) (row : List ℕ) → Sits l i row → length (lay l i row) ≡ length l
same_length l i row (none e) = ap (λ (r : List ℕ). length (lay l i r)) e ∙ ap length (lay_none l i)
same_length l i row (sits h) = lay_length l i row h

pub written : (l : List ℕ) (i : ℕ) (row : List ℕ) → Sits l i row → Written l row (lay l i row) i
unfolding lay
written l i row (none e) = subst (λ (r : List ℕ). Written l r (lay l i r) i) (sym e) (subst (λ (m : List ℕ). Written l [] m i) (sym (lay_none l i)) same)
  where
    same : Written l [] l i
    same = record { same_length = refl; in_front_lem = refl; the_row = refl; behind = refl }
written l i row (sits h) =
    record {
      same_length = lay_length l i row h;
      in_front_lem = take_at (take i l) (row ++ drop (i + length row) l) i (length-take-le i l (omega arith));
      the_row = ap (take (length row)) (drop_at (take i l) (row ++ drop (i + length row) l) i (length-take-le i l (omega arith))) ∙ take_at row (drop (i + length row) l) (length row) refl;
      behind = lay_drop l i row (omega arith);
    }

-- ---- own streams fit the room asked for
own_fits : (σ : Settings) (ps : List Plane) → σ.preset ≤ 24 → σ.shift ≤ 15
    → (length (own_streams σ ps).dc_bytes ≤ (room_for_all σ ps).dc) × (length (own_streams σ ps).ac_bytes ≤ (room_for_all σ ps).ac)
unfolding own_streams
own_fits σ [] a b = (omega arith, omega arith)
own_fits σ (p ∷ ps) a b =
    let r = own_fits σ ps a b in (
      simp length-append (omega (arith, r.0, dc_fits σ p a b)),
      simp length-append (omega (arith, r.1, ac_fits σ p a)),
    )

-- ---- one call
abbrev own : Call → Buffers
own c = own_streams (settings_of c) (planes_of c)

pub room : (c : Call) (lengths at : PerStream) → first_no (coding_questions c lengths at) ≡ 0
    → (at.dc + length (own c).dc_bytes ≤ lengths.dc) × (at.ac + length (own c).ac_bytes ≤ lengths.ac)
room c lengths at e =
    let y = coding_legal c lengths at e in
    let r = own_fits (settings_of c) (planes_of c) y.legal.settings.preset_le y.legal.settings.shift_le in
    (omega (arith, r.0, y.dc_room), omega (arith, r.1, y.ac_room))

module _ (b : Buffers) (starts : PerStream) where
  -- the buffers with the book's rows in them
  abbrev pub with : Book → Buffers
  with k = record { dc_bytes = lay b.dc_bytes starts.dc k.dc_row; ac_bytes = lay b.ac_bytes starts.ac k.ac_row }

  pub record Held (k : Book) : Type 0 where
    pub dc_sits : Sits b.dc_bytes starts.dc k.dc_row
    pub ac_sits : Sits b.ac_bytes starts.ac k.ac_row

  with_lengths : (k : Book) → Held k → lengths_of (with k) ≡ lengths_of b
  with_lengths k h = λ i. record { dc = same_length b.dc_bytes starts.dc k.dc_row h.dc_sits i; ac = same_length b.ac_bytes starts.ac k.ac_row h.ac_sits i }

  abbrev F : Fed
  F = fed b starts

  -- what a call answers and leaves, as the book has it
  abbrev said : ℕ → Call → Book → Coded
  said n c k = record { number = n; at = book_at F (book_by n c k); buffers = with (book_by n c k) }

  by_number_lem : (n : ℕ) (c : Call) (k : Book) → Held k → first_no (coding_questions c (lengths_of b) (book_at F k)) ≡ n
      → (coded_by n (own c) (with k) (book_at F k) ≡ said n c k) × Held (book_by n c k)
  by_number_lem (suc n) c k h e = (refl, h)
  by_number_lem zero c k h e =
      let fit = room c (lengths_of b) (book_at F k) e in (
        λ i. record {
          number = 0;
          at = record { dc = moved starts.dc k.dc_row (own c).dc_bytes i; ac = moved starts.ac k.ac_row (own c).ac_bytes i };
          buffers = record {
            dc_bytes = lay_lay b.dc_bytes starts.dc k.dc_row (within starts.dc k.dc_row (own c).dc_bytes b.dc_bytes fit.0) (own c).dc_bytes i;
            ac_bytes = lay_lay b.ac_bytes starts.ac k.ac_row (within starts.ac k.ac_row (own c).ac_bytes b.ac_bytes fit.1) (own c).ac_bytes i;
          };
        },
        record {
          dc_sits = sits (grown starts.dc k.dc_row (own c).dc_bytes b.dc_bytes fit.0);
          ac_sits = sits (grown starts.ac k.ac_row (own c).ac_bytes b.ac_bytes fit.1);
        },
      )
    where
      moved : (i : ℕ) (xs ys : List ℕ) → i + length xs + length ys ≡ i + length (xs ++ ys)
      moved i xs ys = add_assoc i (length xs) (length ys) ∙ ap (λ (m : ℕ). i + m) (sym (length-append xs ys))

      within : (i : ℕ) (xs ys l : List ℕ) → i + length xs + length ys ≤ length l → i ≤ length l
      within i xs ys l f = omega arith

      grown : (i : ℕ) (xs ys l : List ℕ) → i + length xs + length ys ≤ length l → i + length (xs ++ ys) ≤ length l
      grown i xs ys l f = omega (arith, moved i xs ys)

  one_call : (c : Call) (k : Book) → Held k
      → (encode c (with k) (book_at F k) ≡ said (book_number F k c) c k) × Held (book_next F k c)
  unfolding encode book_number
  one_call c k h =
      let r = by_number_lem (book_number F k c) c k h refl in
      (ap (λ (n : PerStream). coded_by (first_no (coding_questions c n (book_at F k))) (own c) (with k) (book_at F k)) (with_lengths k h) ∙ r.0, r.1)

  -- ---- a list of calls, from a book that holds k
  pub list_coded : (cs : List Call) (k : Book) → Held k
      → (encode_all cs (with k) (book_at F k)
      ≡ record { answers = book_answers F k cs; at = book_at F (book_after F k cs); buffers = with (book_after F k cs) })
      × Held (book_after F k cs)
  unfolding encode_all book_after book_answers
  list_coded [] k h = (refl, h)
  list_coded (c ∷ cs) k h =
      let one = one_call c k h in
      let rest = list_coded cs (book_next F k c) one.1 in (
        ap {A = Coded} {B = CodedAll}
            (λ x. record {
              answers = record { number = x.number; at = x.at } ∷ (encode_all cs x.buffers x.at).answers;
              at = (encode_all cs x.buffers x.at).at;
              buffers = (encode_all cs x.buffers x.at).buffers;
            })
            one.0
            ∙ ap {A = CodedAll} {B = CodedAll}
            (λ x. record {
              answers = record { number = book_number F k c; at = book_at F (book_next F k c) } ∷ x.answers;
              at = x.at;
              buffers = x.buffers;
            })
            rest.0,
        rest.1,
      )

  pub from_empty : (cs : List Call)
      → (encode_all cs b starts
      ≡ record { answers = book_answers F empty_book cs; at = book_at F (book_after F empty_book cs); buffers = with (book_after F empty_book cs) })
      × Held (book_after F empty_book cs)
  from_empty cs =
      let r = list_coded cs empty_book (record { dc_sits = none refl; ac_sits = none refl }) in
      ((λ i. encode_all cs (start i) (here i)) ∙ r.0, r.1)
    where
      start : b ≡ with empty_book
      start = sym (λ i. record { dc_bytes = lay_none b.dc_bytes starts.dc i; ac_bytes = lay_none b.ac_bytes starts.ac i })

      here : starts ≡ book_at F empty_book
      here = sym (λ i. record { dc = add-zero starts.dc i; ac = add-zero starts.ac i })

-- the coding half
pub coding : (cs : List Call) (b : Buffers) (starts : PerStream) → CodingHalf cs b starts (encode_all cs b starts)
coding cs b starts =
    let r = from_empty b starts cs in
    let k = book_after (fed b starts) empty_book cs in
    record {
      answers = ap (λ (x : CodedAll). x.answers) r.0;
      positions = ap (λ (x : CodedAll). x.at) r.0;
      dc_bytes_lem = subst (λ (x : CodedAll). Written b.dc_bytes k.dc_row x.buffers.dc_bytes starts.dc) (sym r.0) (written b.dc_bytes starts.dc k.dc_row r.1.dc_sits);
      ac_bytes_lem = subst (λ (x : CodedAll). Written b.ac_bytes k.ac_row x.buffers.ac_bytes starts.ac) (sym r.0) (written b.ac_bytes starts.ac k.ac_row r.1.ac_sits);
    }
