-- Planes coded in a row: one plane more after those that are there, and the first planes of a slice.
use mathlib.Core.Path.{◌≡◌, sym, ap, ap₂, ◌∙◌}
use mathlib.Core.List.{List, [], ◌∷◌, ◌++◌, append_assoc, append-nil}
use Prim.Native.Nat.{ℕ, zero, suc, ◌+◌, ◌*◌, ◌≤◌}
use native.Mathlib.Nat.{add-zero}
use native.Mathlib.Omega.{arith}
use lib.ListN.{length, take, length-append}
use Rattle.bits.specs.Lay.{lay}
use Rattle.bits.proofs.LayLaw.{lay_none, lay_length, lay_lay}
use Rattle.calls.specs.Arguments.{Settings, Plane, PerStream, Buffers}
use Rattle.calls.specs.Legal.{LegalPlane, Every}
use Rattle.calls.specs.Streams.{dc_stream, ac_stream}
use Rattle.slice.specs.Plane.{coefficients}
use Rattle.slice.specs.Calls.{own_streams}
use Rattle.slice.proofs.Law.{dc_fits, ac_fits}
use Rattle.encplane.specs.Coding.{PlaneOk, PlaneDone}
use Rattle.slice.specs.Room.{room_for, room_for_all}
use Rattle.encoder.specs.Coding.{PlanesOk, PlanesDone}

-- ---- one plane after a list of planes
legal_last : (ps : List Plane) (p : Plane) → Every LegalPlane (ps ++ (p ∷ [])) → LegalPlane p
legal_last [] p h = h.0
legal_last (q ∷ ps) p h = legal_last ps p h.1

room_last : (σ : Settings) (ps : List Plane) (p : Plane)
    → ((room_for_all σ (ps ++ (p ∷ []))).dc ≡ (room_for_all σ ps).dc + (room_for σ p).dc) × ((room_for_all σ (ps ++ (p ∷ []))).ac ≡ (room_for_all σ ps).ac + (room_for σ p).ac)
room_last σ [] p = (omega arith, omega arith)
room_last σ (q ∷ ps) p = let r = room_last σ ps p in (omega (arith, r.0), omega (arith, r.1))

dc_last : (σ : Settings) (ps : List Plane) (p : Plane) → (own_streams σ (ps ++ (p ∷ []))).dc_bytes ≡ (own_streams σ ps).dc_bytes ++ dc_stream σ.shift (coefficients σ p)
unfolding own_streams
dc_last σ [] p = append-nil (dc_stream σ.shift (coefficients σ p))
dc_last σ (q ∷ ps) p =
    ap (λ (l : List ℕ). dc_stream σ.shift (coefficients σ q) ++ l) (dc_last σ ps p)
    ∙ sym (append_assoc (dc_stream σ.shift (coefficients σ q)) (own_streams σ ps).dc_bytes (dc_stream σ.shift (coefficients σ p)))

ac_last : (σ : Settings) (ps : List Plane) (p : Plane) → (own_streams σ (ps ++ (p ∷ []))).ac_bytes ≡ (own_streams σ ps).ac_bytes ++ ac_stream (coefficients σ p)
unfolding own_streams
ac_last σ [] p = append-nil (ac_stream (coefficients σ p))
ac_last σ (q ∷ ps) p =
    ap (λ (l : List ℕ). ac_stream (coefficients σ q) ++ l) (ac_last σ ps p)
    ∙ sym (append_assoc (ac_stream (coefficients σ q)) (own_streams σ ps).ac_bytes (ac_stream (coefficients σ p)))

-- ---- bytes laid after bytes, of one stream
laid : (l : List ℕ) (i : ℕ) (xs ys zs : List ℕ) {m k : List ℕ} {j : ℕ} → i + length xs ≤ length l → zs ≡ xs ++ ys
    → m ≡ lay l i xs → j ≡ i + length xs → k ≡ lay m j ys → k ≡ lay l i zs
laid l i xs ys zs h e f g q =
    q ∙ ap₂ (λ (x : List ℕ) (y : ℕ). lay x y ys) f g ∙ lay_lay l i xs (omega arith) ys ∙ ap (lay l i) (sym e)

ended : (i : ℕ) (xs ys zs : List ℕ) {j k : ℕ} → zs ≡ xs ++ ys → j ≡ i + length xs → k ≡ j + length ys → k ≡ i + length zs
ended i xs ys zs e g q = rw e (omega (arith, length-append xs ys))

-- ---- the planes so far, within their room
module _ (σ : Settings) (b : Buffers) (at : PerStream) where
  pub record SoFar (ps : List Plane) (r : PerStream) (b' : Buffers) : Type 0 where
    pub done : PlanesDone σ ps b at r b'
    pub dc_le : r.dc ≤ at.dc + (room_for_all σ ps).dc
    pub ac_le : r.ac ≤ at.ac + (room_for_all σ ps).ac

  pub none_yet : SoFar [] at b
  unfolding own_streams
  none_yet =
      record {
        done =
            record {
              dc_bytes_lem = sym (lay_none b.dc_bytes at.dc);
              dc_end_lem = sym (add-zero at.dc);
              ac_bytes_lem = sym (lay_none b.ac_bytes at.ac);
              ac_end_lem = sym (add-zero at.ac);
            };
        dc_le = omega arith;
        ac_le = omega arith;
      }

  module _ (ps : List Plane) (p : Plane) {r : PerStream} {b' : Buffers} (ok : PlanesOk σ (ps ++ (p ∷ [])) b at) (c : SoFar ps r b') where
    -- both streams so far, the plane's own, and all of them
    abbrev dc_so_far : List ℕ
    dc_so_far = (own_streams σ ps).dc_bytes

    abbrev ac_so_far : List ℕ
    ac_so_far = (own_streams σ ps).ac_bytes

    abbrev dc_own : List ℕ
    dc_own = dc_stream σ.shift (coefficients σ p)

    abbrev ac_own : List ℕ
    ac_own = ac_stream (coefficients σ p)

    abbrev dc_all_lem : List ℕ
    dc_all_lem = (own_streams σ (ps ++ (p ∷ []))).dc_bytes

    abbrev ac_all_lem : List ℕ
    ac_all_lem = (own_streams σ (ps ++ (p ∷ []))).ac_bytes

    dc_inside : at.dc + length dc_so_far ≤ length b.dc_bytes
    dc_inside = omega (arith, c.done.dc_end_lem, c.dc_le, (room_last σ ps p).0, ok.dc_room)

    ac_inside : at.ac + length ac_so_far ≤ length b.ac_bytes
    ac_inside = omega (arith, c.done.ac_end_lem, c.ac_le, (room_last σ ps p).1, ok.ac_room)

    dcs_length : length b'.dc_bytes ≡ length b.dc_bytes
    dcs_length = ap length c.done.dc_bytes_lem ∙ lay_length b.dc_bytes at.dc dc_so_far dc_inside

    acs_length : length b'.ac_bytes ≡ length b.ac_bytes
    acs_length = ap length c.done.ac_bytes_lem ∙ lay_length b.ac_bytes at.ac ac_so_far ac_inside

    -- the next plane has its room
    pub next_ok : PlaneOk σ p b' r
    next_ok =
        record {
          settings = ok.settings;
          plane = legal_last ps p ok.planes;
          dc_room = omega (arith, c.dc_le, (room_last σ ps p).0, ok.dc_room, dcs_length);
          ac_room = omega (arith, c.ac_le, (room_last σ ps p).1, ok.ac_room, acs_length);
        }

    -- and after it the planes with this one are coded
    pub one_more : {r' : PerStream} {b'' : Buffers} → PlaneDone σ p b' r r' b'' → SoFar (ps ++ (p ∷ [])) r' b''
    one_more q =
        record {
          done =
              record {
                dc_bytes_lem = laid b.dc_bytes at.dc dc_so_far dc_own dc_all_lem dc_inside (dc_last σ ps p) c.done.dc_bytes_lem c.done.dc_end_lem q.dc_bytes_lem;
                dc_end_lem = ended at.dc dc_so_far dc_own dc_all_lem (dc_last σ ps p) c.done.dc_end_lem q.dc_end_lem;
                ac_bytes_lem = laid b.ac_bytes at.ac ac_so_far ac_own ac_all_lem ac_inside (ac_last σ ps p) c.done.ac_bytes_lem c.done.ac_end_lem q.ac_bytes_lem;
                ac_end_lem = ended at.ac ac_so_far ac_own ac_all_lem (ac_last σ ps p) c.done.ac_end_lem q.ac_end_lem;
              };
          dc_le = omega (arith, q.dc_end_lem, c.dc_le, (room_last σ ps p).0, dc_fits σ p ok.settings.preset_le ok.settings.shift_le);
          ac_le = omega (arith, q.ac_end_lem, c.ac_le, (room_last σ ps p).1, ac_fits σ p ok.settings.preset_le);
        }

-- ---- the first planes of those that may be coded
legal_first : (m n : ℕ) (ps : List Plane) → m ≤ n → Every LegalPlane (take n ps) → Every LegalPlane (take m ps)
legal_first zero n ps h k = tt
legal_first (suc m) zero ps h k = absurd (omega arith)
legal_first (suc m) (suc n) [] h k = tt
legal_first (suc m) (suc n) (p ∷ ps) h k = (k.0, legal_first m n ps (omega arith) k.1)

room_first : (σ : Settings) (m n : ℕ) (ps : List Plane) → m ≤ n → ((room_for_all σ (take m ps)).dc ≤ (room_for_all σ (take n ps)).dc) × ((room_for_all σ (take m ps)).ac ≤ (room_for_all σ (take n ps)).ac)
room_first σ zero n ps h = (omega arith, omega arith)
room_first σ (suc m) zero ps h = absurd (omega arith)
room_first σ (suc m) (suc n) [] h = (omega arith, omega arith)
room_first σ (suc m) (suc n) (p ∷ ps) h = let r = room_first σ m n ps (omega arith) in (omega (arith, r.0), omega (arith, r.1))

pub first_ok : (σ : Settings) (m n : ℕ) (ps : List Plane) {b : Buffers} {at : PerStream} → m ≤ n → PlanesOk σ (take n ps) b at → PlanesOk σ (take m ps) b at
first_ok σ m n ps h ok =
    record {
      settings = ok.settings;
      planes = legal_first m n ps h ok.planes;
      dc_room = omega (arith, ok.dc_room, (room_first σ m n ps h).0);
      ac_room = omega (arith, ok.ac_room, (room_first σ m n ps h).1);
    }

-- all planes that were asked for are coded
pub all_done : (σ : Settings) (m n : ℕ) (ps : List Plane) {b : Buffers} {at r : PerStream} {b' : Buffers} → n ≡ m → SoFar σ b at (take m ps) r b' → PlanesDone σ (take n ps) b at r b'
all_done σ m n ps e c = rw e c.done
