-- The two loops over blocks, one law for both depths.
use mathlib.Core.Path.{◌≡◌, sym, ap, ◌∙◌, subst}
use mathlib.Core.List.{List, [], ◌∷◌, ◌++◌, append_assoc, append-nil}
use Prim.Native.Nat.{ℕ, zero, suc, ◌+◌, ◌*◌, ◌<◌}
use native.Mathlib.Nat.{zero-add}
use native.Mathlib.Numerals.{add-one}
use native.Mathlib.Omega.{arith}
use lib.IntN.{ℤ}
use lib.ListN.{length, length-append}
use Rattle.scalar.specs.Tab.{tab, tab_from}
use Rattle.scalar.proofs.Fill.{length_tab}
use Rattle.calls.specs.Arguments.{Settings, Plane, PerStream, Buffers, buffers}
use Rattle.calls.specs.Legal.{LegalSettings}
use Rattle.calls.specs.Grid.{columns_of, blocks_of}
use Rattle.slice.specs.Plane.{block_coefficients, coefficients_at, coefficients}
use Rattle.calls.proofs.Fits.{Quantised}
use Rattle.slice.proofs.Law.{quantised, count_is}
use Rattle.entropy.specs.declared.plane.PlaneState.{PlaneState}
use Rattle.entropy.specs.plane.Coded.{start_of, PlaneCoded, BlockRoom, EndRoom, Ended}
use Rattle.entropy.proofs.plane.Blocks.{coded_start}
use Rattle.entropy.proofs.plane.Rooms.{Begun, block_room, begun_next, end_room}
use Rattle.entropy.proofs.plane.Whole.{dc_whole, dc_ends, ac_whole, ac_ends}
use Rattle.encplane.specs.Coding.{PlaneOk, PlaneDone}

-- a table, one entry more
tab_from_lem : {A : Type 0} (g : ℕ → A) (k n : ℕ) → tab_from g k (suc n) ≡ tab_from g k n ++ (g (k + n) ∷ [])
unfolding tab_from
tab_from_lem g k zero = let e : k ≡ k + 0 = omega arith in ap (λ (x : ℕ). g x ∷ []) e
tab_from_lem g k (suc n) =
    let e : suc k + n ≡ k + suc n = omega arith in
    ap (λ (l : List _). g k ∷ l) (tab_from_lem g (suc k) n ∙ ap (λ (x : ℕ). tab_from g (suc k) n ++ (g x ∷ [])) e)

tab_more : {A : Type 0} (g : ℕ → A) (n : ℕ) → tab n g ++ (g n ∷ []) ≡ tab (n + 1) g
tab_more g n = ap (λ (x : ℕ). tab n g ++ (g x ∷ [])) (sym (zero-add n)) ∙ sym (tab_from_lem g 0 n) ∙ ap (λ (x : ℕ). tab x g) (sym (add-one n))

-- whole block rows, n blocks each
abbrev pub rows_to : (ℕ → ℕ → List ℤ) → ℕ → ℕ → List (List ℤ)
rows_to f n zero = []
rows_to f n (suc j) = rows_to f n j ++ tab n (f j)

-- j block rows, then i blocks
abbrev pub up_to : (ℕ → ℕ → List ℤ) → ℕ → ℕ → ℕ → List (List ℤ)
up_to f n j i = rows_to f n j ++ tab i (f j)

up_next : (f : ℕ → ℕ → List ℤ) (n j i : ℕ) → up_to f n j i ++ (f j i ∷ []) ≡ up_to f n j (i + 1)
up_next f n j i = append_assoc (rows_to f n j) (tab i (f j)) (f j i ∷ []) ∙ ap (λ (l : List (List ℤ)). rows_to f n j ++ l) (tab_more (f j) i)

up_first : (f : ℕ → ℕ → List ℤ) (n j : ℕ) → rows_to f n j ≡ up_to f n j 0
unfolding tab_from
up_first f n j = sym (append-nil (rows_to f n j))

up_row : (f : ℕ → ℕ → List ℤ) (n j : ℕ) → up_to f n j n ≡ rows_to f n (j + 1)
up_row f n j = ap (rows_to f n) (sym (add-one j))

up_length : (f : ℕ → ℕ → List ℤ) (n j i : ℕ) → j < 2 → i < n → length (up_to f n j i) < 2 * n
up_length f n zero i h l = omega (arith, length_tab i (f 0))
up_length f n (suc zero) i h l = omega (arith, length-append (tab n (f 0)) (tab i (f 1)), length_tab n (f 0), length_tab i (f 1))
up_length f n (suc (suc j)) i h l = absurd (omega arith)

module _ (σ : Settings) (p : Plane) where
  abbrev pub block : ℕ → ℕ → List ℤ
  block j k = block_coefficients σ.depth σ.preset p j k

  -- these blocks are coded, of a plane that began at these positions
  abbrev With : Buffers → PerStream → List (List ℤ) → PlaneState → List ℕ → List ℕ → Type 0
  With b at bs s dc1 ac1 = Begun σ.shift b.dc_bytes b.ac_bytes at (blocks_of p.stride) bs s dc1 ac1

  -- j block rows and i blocks
  abbrev pub Coding : Buffers → PerStream → ℕ → ℕ → PlaneState → List ℕ → List ℕ → Type 0
  Coding b at j i s dc1 ac1 = With b at (up_to block (columns_of p.stride) j i) s dc1 ac1

  -- from the state s0 and the buffers dc0 and ac0 on, after j0 block rows, wherever the plane began
  abbrev pub From : ℕ → PlaneState → List ℕ → List ℕ → ℕ → ℕ → PlaneState → List ℕ → List ℕ → Type 0
  From j0 s0 dc0 ac0 j i s dc1 ac1 = (b : Buffers) (at : PerStream) → Coding b at j0 0 s0 dc0 ac0 → Coding b at j i s dc1 ac1

  none_yet : {b : Buffers} {at : PerStream} → PlaneOk σ p b at → Coding b at 0 0 (start_of at) b.dc_bytes b.ac_bytes
  unfolding tab_from
  none_yet {b} {at} o = record {
    coded = coded_start σ.shift b.dc_bytes b.ac_bytes at (omega (arith, o.dc_room)) (omega (arith, o.ac_room));
    quantised = tt;
    shift_le = o.settings.shift_le;
    dc_room = o.dc_room;
    ac_room = o.ac_room;
    few = omega (arith, o.plane.stride_le);
  }

  pub begun : {b : Buffers} {at : PerStream} {s : PlaneState} → s ≡ start_of at → PlaneOk σ p b at → Coding b at 0 0 s b.dc_bytes b.ac_bytes
  begun {b} {at} e o = subst (λ (x : PlaneState). Coding b at 0 0 x b.dc_bytes b.ac_bytes) (sym e) (none_yet o)

  -- one block
  pub room : (j i : ℕ) {b : Buffers} {at : PerStream} {s : PlaneState} {dc1 ac1 : List ℕ} (z : List ℤ) → LegalSettings σ → j < 2 → i < columns_of p.stride → z ≡ block j i
      → Coding b at j i s dc1 ac1 → BlockRoom σ.shift s dc1 ac1 z
  room j i z h hj hi e x =
      block_room x z (subst Quantised (sym e) (quantised σ.depth σ.preset p j i h.preset_le)) (up_length block (columns_of p.stride) j i hj hi)

  pub coded : (j i : ℕ) {b : Buffers} {at : PerStream} {s : PlaneState} {dc1 ac1 : List ℕ} (z : List ℤ) {r : PlaneState} {dc2 ac2 : List ℕ} → LegalSettings σ → z ≡ block j i
      → PlaneCoded σ.shift s dc1 ac1 (z ∷ []) r dc2 ac2 → Coding b at j i s dc1 ac1 → Coding b at j (i + 1) r dc2 ac2
  coded j i {b} {at} z {r} {dc2} {ac2} h e c x =
      subst (λ (l : List (List ℤ)). With b at l r dc2 ac2)
      (ap (λ (y : List ℤ). up_to block (columns_of p.stride) j i ++ (y ∷ [])) e ∙ up_next block (columns_of p.stride) j i)
      (begun_next x z (subst Quantised (sym e) (quantised σ.depth σ.preset p j i h.preset_le)) c)

  -- a block row
  pub next_row : (j i : ℕ) {b : Buffers} {at : PerStream} {s : PlaneState} {dc1 ac1 : List ℕ} → i ≡ columns_of p.stride → Coding b at j i s dc1 ac1 → Coding b at (j + 1) 0 s dc1 ac1
  next_row j i {b} {at} {s} {dc1} {ac1} e x =
      subst (λ (l : List (List ℤ)). With b at l s dc1 ac1)
      (ap (up_to block (columns_of p.stride) j) e ∙ up_row block (columns_of p.stride) j ∙ up_first block (columns_of p.stride) (j + 1))
      x

  -- all of them
  all : (j : ℕ) {b : Buffers} {at : PerStream} {s : PlaneState} {dc1 ac1 : List ℕ} → j ≡ 2 → Coding b at j 0 s dc1 ac1 → With b at (coefficients σ p) s dc1 ac1
  unfolding coefficients_at
  all j {b} {at} {s} {dc1} {ac1} e x =
      subst (λ (l : List (List ℤ)). With b at l s dc1 ac1) (sym (up_first block (columns_of p.stride) j) ∙ ap (rows_to block (columns_of p.stride)) e) x

  pub last_room : (j : ℕ) {b : Buffers} {at : PerStream} {s : PlaneState} {dc1 ac1 : List ℕ} → LegalSettings σ → j ≡ 2 → Coding b at j 0 s dc1 ac1 → EndRoom s dc1 ac1
  last_room j h e x = end_room (all j e x) (omega (arith, count_is σ p h.preset_le))

  pub done : (j : ℕ) {b : Buffers} {at : PerStream} {s : PlaneState} {dc1 ac1 : List ℕ} {r : PerStream} {dc2 ac2 : List ℕ} → j ≡ 2 → Coding b at j 0 s dc1 ac1 → Ended s dc1 ac1 r dc2 ac2
      → PlaneDone σ p b at r (buffers dc2 ac2)
  done j e x y =
      let c = (all j e x).coded in
      record { dc_bytes_lem = dc_whole c y; dc_end_lem = dc_ends c y; ac_bytes_lem = ac_whole c y; ac_end_lem = ac_ends c y }
