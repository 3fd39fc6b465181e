-- A slice plane by plane: what the next plane asks is there, and the rows so far are made from what was read.
use mathlib.Core.Path.{◌≡◌, sym, ap, ap₂, ◌∙◌}
use mathlib.Core.List.{List, [], ◌∷◌}
use Prim.Native.Nat.{ℕ, ◌-◌, ◌≤◌, ◌<◌}
use native.Mathlib.Omega.{arith}
use lib.ListN.{take}
use Rattle.calls.specs.Arguments.{Settings, Rows, Plane, plane, plane_at, one_slice, PerStream, Buffers}
use Rattle.calls.specs.Views.{plane_by}
use Rattle.calls.specs.declared.Shape.{Shape}
use Rattle.calls.specs.ReadPlane.{BlockRead}
use Rattle.slice.specs.Calls.{PlanesRead, planes_read, rows_made}
use Rattle.decplane.specs.Storing.{PlaneGood, PlaneStored}
use Rattle.decoder.specs.Storing.{planes_got, SliceGood, SliceStored}
use Rattle.decoder.proofs.InTurn.{all, Going, plane_good, going_on, read_on_lem, read_none_lem}

module _ (σ : Settings) (count : ℕ) (r0 r1 r2 r3 : Rows) (b : Buffers) (at : PerStream) (g : SliceGood (one_slice σ count r0 r1 r2 r3) b at) where
  abbrev P0 : Plane
  P0 = plane_at 0 r0

  abbrev P1 : Plane
  P1 = plane_at 1 r1

  abbrev P2 : Plane
  P2 = plane_at 2 r2

  abbrev P3 : Plane
  P3 = plane_at 3 r3

  abbrev four : List Plane
  four = P0 ∷ P1 ∷ P2 ∷ P3 ∷ []

  start : Going σ b count four at
  start = record { settings = g.legal.settings; planes = g.legal.planes; good = g.good }

  -- the rows that what was read makes of all four
  stored : {bs : List (List BlockRead)} {r : PerStream} {rows : List (List ℕ)} → all σ b (take count four) at ≡ planes_read bs r
      → rows ≡ rows_made σ four bs → SliceStored (one_slice σ count r0 r1 r2 r3) b at r rows
  stored {bs} {r} {rows} e m =
      record {
        ends = e ∙ ap (λ (x : PlanesRead). planes_read (planes_got x) r) (sym e);
        stored = m ∙ ap (λ (x : PlanesRead). rows_made σ four (planes_got x)) (sym e);
      }

  pub good0 : PlaneGood σ P0 b at
  good0 = plane_good σ b count P0 (P1 ∷ P2 ∷ P3 ∷ []) at g.legal.which.0 (omega (arith, g.dc_start)) (omega (arith, g.ac_start)) start

  module _ {e0 : PerStream} {x0 : List ℕ} (s0 : PlaneStored σ P0 b at e0 x0) where
    going1 : Going σ b (count - 1) (P1 ∷ P2 ∷ P3 ∷ []) e0
    going1 = going_on σ b P0 (P1 ∷ P2 ∷ P3 ∷ []) at s0 count g.legal.which.0 start

    pub done1 : count < 2 → SliceStored (one_slice σ count r0 r1 r2 r3) b at e0 (x0 ∷ r1.samples ∷ r2.samples ∷ r3.samples ∷ [])
    unfolding rows_made
    done1 h =
        stored
        (read_on_lem σ b P0 (P1 ∷ P2 ∷ P3 ∷ []) at s0 count g.legal.which.0 (read_none_lem σ b (count - 1) (P1 ∷ P2 ∷ P3 ∷ []) e0 (omega arith)))
        (ap (λ (x : List ℕ). x ∷ r1.samples ∷ r2.samples ∷ r3.samples ∷ []) s0.stored)

    module _ (h1 : 2 ≤ count) where
      pub good1 : PlaneGood σ P1 b e0
      good1 =
          plane_good σ b (count - 1) P1 (P2 ∷ P3 ∷ []) e0 (omega arith) (omega (arith, g.dc_start, s0.dc_near)) (omega (arith, g.ac_start, s0.ac_near)) going1

      module _ {e1 : PerStream} {x1 : List ℕ} (s1 : PlaneStored σ P1 b e0 e1 x1) where
        going2 : Going σ b (count - 1 - 1) (P2 ∷ P3 ∷ []) e1
        going2 = going_on σ b P1 (P2 ∷ P3 ∷ []) e0 s1 (count - 1) (omega arith) going1

        pub done2 : count < 3 → SliceStored (one_slice σ count r0 r1 r2 r3) b at e1 (x0 ∷ x1 ∷ r2.samples ∷ r3.samples ∷ [])
        unfolding rows_made
        done2 h =
            stored
            (read_on_lem σ b P0 (P1 ∷ P2 ∷ P3 ∷ []) at s0 count g.legal.which.0
            (read_on_lem σ b P1 (P2 ∷ P3 ∷ []) e0 s1 (count - 1) (omega arith)
            (read_none_lem σ b (count - 1 - 1) (P2 ∷ P3 ∷ []) e1 (omega arith))))
            (ap₂ (λ (x y : List ℕ). x ∷ y ∷ r2.samples ∷ r3.samples ∷ []) s0.stored s1.stored)

        module _ (h2 : 3 ≤ count) where
          pub good2 : PlaneGood σ P2 b e1
          good2 =
              plane_good σ b (count - 1 - 1) P2 (P3 ∷ []) e1 (omega arith)
              (omega (arith, g.dc_start, s0.dc_near, s1.dc_near)) (omega (arith, g.ac_start, s0.ac_near, s1.ac_near)) going2

          module _ {e2 : PerStream} {x2 : List ℕ} (s2 : PlaneStored σ P2 b e1 e2 x2) where
            going3 : Going σ b (count - 1 - 1 - 1) (P3 ∷ []) e2
            going3 = going_on σ b P2 (P3 ∷ []) e1 s2 (count - 1 - 1) (omega arith) going2

            pub done3 : count < 4 → SliceStored (one_slice σ count r0 r1 r2 r3) b at e2 (x0 ∷ x1 ∷ x2 ∷ r3.samples ∷ [])
            unfolding rows_made
            done3 h =
                stored
                (read_on_lem σ b P0 (P1 ∷ P2 ∷ P3 ∷ []) at s0 count g.legal.which.0
                (read_on_lem σ b P1 (P2 ∷ P3 ∷ []) e0 s1 (count - 1) (omega arith)
                (read_on_lem σ b P2 (P3 ∷ []) e1 s2 (count - 1 - 1) (omega arith)
                (read_none_lem σ b (count - 1 - 1 - 1) (P3 ∷ []) e2 (omega arith)))))
                (ap₂ (λ (x : List ℕ) (y : List (List ℕ)). x ∷ y) s0.stored (ap₂ (λ (x y : List ℕ). x ∷ y ∷ r3.samples ∷ []) s1.stored s2.stored))

            module _ (h3 : 4 ≤ count) where
              pub good3 : PlaneGood σ P3 b e2
              good3 =
                  plane_good σ b (count - 1 - 1 - 1) P3 [] e2 (omega arith)
                  (omega (arith, g.dc_start, s0.dc_near, s1.dc_near, s2.dc_near)) (omega (arith, g.ac_start, s0.ac_near, s1.ac_near, s2.ac_near)) going3

              pub done4 : {e3 : PerStream} {x3 : List ℕ} → PlaneStored σ P3 b e2 e3 x3 → SliceStored (one_slice σ count r0 r1 r2 r3) b at e3 (x0 ∷ x1 ∷ x2 ∷ x3 ∷ [])
              unfolding rows_made
              done4 {e3} {x3} s3 =
                  stored
                  (read_on_lem σ b P0 (P1 ∷ P2 ∷ P3 ∷ []) at s0 count g.legal.which.0
                  (read_on_lem σ b P1 (P2 ∷ P3 ∷ []) e0 s1 (count - 1) (omega arith)
                  (read_on_lem σ b P2 (P3 ∷ []) e1 s2 (count - 1 - 1) (omega arith)
                  (read_on_lem σ b P3 [] e2 s3 (count - 1 - 1 - 1) (omega arith)
                  (read_none_lem σ b (count - 1 - 1 - 1 - 1) [] e3 (omega (arith, g.legal.which.1)))))))
                  (ap₂ (λ (x : List ℕ) (y : List (List ℕ)). x ∷ y) s0.stored
                  (ap₂ (λ (x : List ℕ) (y : List (List ℕ)). x ∷ y) s1.stored (ap₂ (λ (x y : List ℕ). x ∷ y ∷ []) s2.stored s3.stored)))

-- ---- a plane by a shape that has its place and its stride
module _ {σ : Settings} {b : Buffers} {h : Shape} {k n : ℕ} {x : List ℕ} {at : PerStream} (s : (h.place ≡ k) × (h.stride ≡ n)) where
  pub good_by : PlaneGood σ (plane k n x) b at → PlaneGood σ (plane_by h x) b at
  good_by p = rw (s.0, s.1) p

  pub stored_by : {end : PerStream} {y : List ℕ} → PlaneStored σ (plane_by h x) b at end y → PlaneStored σ (plane k n x) b at end y
  stored_by p = rw (sym s.0, sym s.1) p

-- ---- the same of what a call is given
pub record Given : Type 0 where
  pub σ : Settings
  pub count : ℕ
  pub r0 : Rows
  pub r1 : Rows
  pub r2 : Rows
  pub r3 : Rows
  pub b : Buffers
  pub at : PerStream

module _ (G : Given) where
  abbrev pub Ask : ℕ → Rows → PerStream → Type 0
  Ask k r e = PlaneGood G.σ (plane_at k r) G.b e

  abbrev pub Did : ℕ → Rows → PerStream → PerStream → List ℕ → Type 0
  Did k r e e' x = PlaneStored G.σ (plane_at k r) G.b e e' x

  abbrev pub Whole : PerStream → List (List ℕ) → Type 0
  Whole e rows = SliceStored (one_slice G.σ G.count G.r0 G.r1 G.r2 G.r3) G.b G.at e rows

  module _ (g : SliceGood (one_slice G.σ G.count G.r0 G.r1 G.r2 G.r3) G.b G.at) where
    pub ask_0 : Ask 0 G.r0 G.at
    ask_0 = good0 G.σ G.count G.r0 G.r1 G.r2 G.r3 G.b G.at g

    module _ {e0 : PerStream} {x0 : List ℕ} (s0 : Did 0 G.r0 G.at e0 x0) where
      pub whole_1 : G.count < 2 → Whole e0 (x0 ∷ G.r1.samples ∷ G.r2.samples ∷ G.r3.samples ∷ [])
      whole_1 = done1 G.σ G.count G.r0 G.r1 G.r2 G.r3 G.b G.at g s0

      module _ (h1 : 2 ≤ G.count) where
        pub ask_1 : Ask 1 G.r1 e0
        ask_1 = good1 G.σ G.count G.r0 G.r1 G.r2 G.r3 G.b G.at g s0 h1

        module _ {e1 : PerStream} {x1 : List ℕ} (s1 : Did 1 G.r1 e0 e1 x1) where
          pub whole_2 : G.count < 3 → Whole e1 (x0 ∷ x1 ∷ G.r2.samples ∷ G.r3.samples ∷ [])
          whole_2 = done2 G.σ G.count G.r0 G.r1 G.r2 G.r3 G.b G.at g s0 h1 s1

          module _ (h2 : 3 ≤ G.count) where
            pub ask_2 : Ask 2 G.r2 e1
            ask_2 = good2 G.σ G.count G.r0 G.r1 G.r2 G.r3 G.b G.at g s0 h1 s1 h2

            module _ {e2 : PerStream} {x2 : List ℕ} (s2 : Did 2 G.r2 e1 e2 x2) where
              pub whole_3 : G.count < 4 → Whole e2 (x0 ∷ x1 ∷ x2 ∷ G.r3.samples ∷ [])
              whole_3 = done3 G.σ G.count G.r0 G.r1 G.r2 G.r3 G.b G.at g s0 h1 s1 h2 s2

              module _ (h3 : 4 ≤ G.count) where
                pub ask_3 : Ask 3 G.r3 e2
                ask_3 = good3 G.σ G.count G.r0 G.r1 G.r2 G.r3 G.b G.at g s0 h1 s1 h2 s2 h3

                pub whole_4 : {e3 : PerStream} {x3 : List ℕ} → Did 3 G.r3 e2 e3 x3 → Whole e3 (x0 ∷ x1 ∷ x2 ∷ x3 ∷ [])
                whole_4 = done4 G.σ G.count G.r0 G.r1 G.r2 G.r3 G.b G.at g s0 h1 s1 h2 s2 h3
