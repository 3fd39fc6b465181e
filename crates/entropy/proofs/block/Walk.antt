-- The walk over a block's non-zero places, by the trailing zeros of what is left of the mask.
use mathlib.Core.Path.{◌≡◌, refl, sym, ap, ap₂, ◌∙◌, subst}
use mathlib.Core.Bool.{Bool}
use mathlib.Core.List.{List, [], ◌∷◌, ◌++◌, append_assoc, append-nil}
use Prim.Native.Nat.{ℕ, zero, suc, ◌+◌, ◌-◌, ◌*◌, ◌/◌, ◌%◌, ◌^◌, ◌≤◌, ◌<◌}
use native.Mathlib.Nat.{add-zero, zero-mul}
use native.Mathlib.Numerals.{add-one}
use native.Mathlib.Omega.{arith}
use lib.Bits.{bit_and}
use lib.Count.{count_trailing_zeros, under}
use lib.IntN.{ℤ, pos, negsuc}
use lib.ListN.{length, drop, length-append, length-drop}
use lib.Seq.{drop-cons, drop-drop, get_or-drop}
use Rattle.scalar.specs.Tab.{lane}
use Rattle.bits.specs.Bits.{value_code, run_code}
use Rattle.bits.specs.Signed.{code_of}
use Rattle.shuffles.specs.Shuffles.{flag, nonzero_mask}
use Rattle.calls.specs.Streams.{with_dc}
use Rattle.bitwriter.specs.Put.{Put, Room}
use Rattle.bitwriter.specs.declared.BitAcc.{BitAcc}
use Rattle.entropy.specs.block.Places.{places_codes, waiting_after}
use Rattle.entropy.proofs.block.Places.{value_codes, value_waits, first_codes, first_waits}
use Rattle.entropy.proofs.block.Lowest.{shifted, none_left, doubled, scaled, cleared}
use Rattle.entropy.proofs.block.Chain.{put_none, put_put, put_room}

-- ---- the first non-zero place of a row whose mask is m
pub record Next (l : List ℤ) (m t : ℕ) : Type 0 where
  pub inside : t < length l
  pub some : lane l t ≡ pos 0 → ⊥
  pub codes : (w : ℕ) → places_codes w l ≡ places_codes (w + t) (drop t l)
  pub waits : (w : ℕ) → waiting_after w l ≡ waiting_after (w + t) (drop t l)
  pub whole : m ≡ nonzero_mask (drop (suc t) l) * 2 ^ suc t + 2 ^ t

zero_place : (l : List ℤ) (m n t : ℕ) → m ≡ 2 * n → Next l n t → Next (pos zero ∷ l) m (suc t)
unfolding places_codes waiting_after
zero_place l m n t e r = record {
  inside = omega (arith, r.inside);
  some = r.some;
  codes = λ w. let s : suc w + t ≡ w + suc t = omega arith in r.codes (suc w) ∙ ap (λ (k : ℕ). places_codes k (drop t l)) s;
  waits = λ w. let s : suc w + t ≡ w + suc t = omega arith in r.waits (suc w) ∙ ap (λ (k : ℕ). waiting_after k (drop t l)) s;
  whole = doubled m n (nonzero_mask (drop (suc t) l)) t e r.whole;
}

some_place : (c : ℤ) (l : List ℤ) (m n : ℕ) → (c ≡ pos 0 → ⊥) → m ≡ 1 + 2 * n → n ≡ nonzero_mask l → Next (c ∷ l) m 0
some_place c l m n ne e f = record {
  inside = omega arith;
  some = ne;
  codes = λ w. ap (λ (k : ℕ). places_codes k (c ∷ l)) (sym (add-zero w));
  waits = λ w. ap (λ (k : ℕ). waiting_after k (c ∷ l)) (sym (add-zero w));
  whole = omega arith;
}

count_zero : (k m n : ℕ) → m ≡ 2 * n → under (m % 2) (count_trailing_zeros k (m / 2)) ≡ suc (count_trailing_zeros k n)
count_zero k m n e =
    let a : m % 2 ≡ 0 = omega arith in
    let b : m / 2 ≡ n = omega arith in
    rw (a, b) refl

count_some : (k m n : ℕ) → m ≡ 1 + 2 * n → under (m % 2) (count_trailing_zeros k (m / 2)) ≡ 0
count_some k m n e =
    let a : m % 2 ≡ 1 = omega arith in
    rw a refl

pub next : (k : ℕ) (l : List ℤ) → length l ≤ k → (nonzero_mask l ≡ 0 → ⊥) → Next l (nonzero_mask l) (count_trailing_zeros k (nonzero_mask l))
unfolding nonzero_mask flag count_trailing_zeros
next k [] h n = absurd (n refl)
next zero (c ∷ l) h n = absurd (omega arith)
next (suc k) (pos zero ∷ l) h n =
    let m = nonzero_mask (pos zero ∷ l) in
    let e : nonzero_mask (pos zero ∷ l) ≡ 2 * nonzero_mask l = omega arith in
    subst (λ (t : ℕ). Next (pos zero ∷ l) (nonzero_mask (pos zero ∷ l)) t)
    (sym (count_zero k (nonzero_mask (pos zero ∷ l)) (nonzero_mask l) e))
    (zero_place l (nonzero_mask (pos zero ∷ l)) (nonzero_mask l) (count_trailing_zeros k (nonzero_mask l)) e (next k l (omega arith) (λ z. n (omega arith))))
next (suc k) (pos (suc c) ∷ l) h n =
    let e : nonzero_mask (pos (suc c) ∷ l) ≡ 1 + 2 * nonzero_mask l = omega arith in
    subst (λ (t : ℕ). Next (pos (suc c) ∷ l) (nonzero_mask (pos (suc c) ∷ l)) t)
    (sym (count_some k (nonzero_mask (pos (suc c) ∷ l)) (nonzero_mask l) e))
    (some_place (pos (suc c)) l (nonzero_mask (pos (suc c) ∷ l)) (nonzero_mask l) (suc_not c) e refl)
  where
    suc_not : (n : ℕ) → pos (suc n) ≡ pos 0 → ⊥
    suc_not n e = let z : ◌≡◌ {A = ℕ} (suc n) 0 = cc in omega arith
next (suc k) (negsuc c ∷ l) h n =
    let e : nonzero_mask (negsuc c ∷ l) ≡ 1 + 2 * nonzero_mask l = omega arith in
    subst (λ (t : ℕ). Next (negsuc c ∷ l) (nonzero_mask (negsuc c ∷ l)) t)
    (sym (count_some k (nonzero_mask (negsuc c ∷ l)) (nonzero_mask l) e))
    (some_place (negsuc c) l (nonzero_mask (negsuc c ∷ l)) (nonzero_mask l) (neg_not c) e refl)
  where
    neg_not : (n : ℕ) → negsuc n ≡ pos 0 → ⊥
    neg_not n e = let z : ◌≡◌ {A = ℕ} 0 1 = cc in omega arith

-- a row of zeros
pub none : (l : List ℤ) → nonzero_mask l ≡ 0 → (w : ℕ) → (places_codes w l ≡ []) × (waiting_after w l ≡ w + length l)
unfolding nonzero_mask flag places_codes waiting_after
none [] e w = (refl, omega arith)
none (pos zero ∷ l) e w = let r = none l (omega arith) (suc w) in (r.0, omega (arith, r.1))
none (pos (suc n) ∷ l) e w = absurd (omega arith)
none (negsuc n ∷ l) e w = absurd (omega arith)

-- ---- the walk
-- the places before at are coded; run zeros wait, and m has the places of the rest that are not zero
pub record Going (z : List ℤ) (a₀ : BitAcc) (o₀ : List ℕ) (run₀ : ℕ) (a : BitAcc) (o : List ℕ) (run m at : ℕ) : Type 0 where
  pub done : List Bool
  pub wrote : Put a₀ o₀ done a o
  pub codes : done ++ places_codes run (drop at z) ≡ places_codes run₀ (drop 1 z)
  pub waits : waiting_after run (drop at z) ≡ waiting_after run₀ (drop 1 z)
  pub mask : m ≡ nonzero_mask (drop at z) * 2 ^ at
  pub at_le : at ≤ 64
  pub few : run + (64 - at) ≤ 131072

-- the mask without its lowest bit
mask_tail : (z : List ℤ) (m : ℕ) → length z ≡ 64 → m ≡ nonzero_mask z → m / 2 ≡ nonzero_mask (drop 1 z)
unfolding nonzero_mask flag
mask_tail [] m h e = absurd (omega arith)
mask_tail (pos zero ∷ z) m h e = omega arith
mask_tail (pos (suc n) ∷ z) m h e = omega arith
mask_tail (negsuc n ∷ z) m h e = omega arith

pub going : (z : List ℤ) (a : BitAcc) (o : List ℕ) (run m n : ℕ) → length z ≡ 64 → m ≡ nonzero_mask z → run ≤ 131009 → Room a n o → Going z a o run a o run (m / 2 * 2) 1
going z a o run m n h e f r = record {
  done = [];
  wrote = put_none r;
  codes = refl;
  waits = refl;
  mask = ap (λ (k : ℕ). k * 2) (mask_tail z m h e);
  at_le = omega arith;
  few = omega arith;
}

-- one turn: p is the next place
pub record Turn (z : List ℤ) (run m at p : ℕ) : Type 0 where
  pub from : at ≤ p
  pub inside : p < 64
  pub some : lane z p ≡ pos 0 → ⊥
  pub codes : places_codes run (drop at z) ≡ (run_code (run + (p - at)) ++ value_code (code_of (lane z p))) ++ places_codes 0 (drop (p + 1) z)
  pub waits : waiting_after run (drop at z) ≡ waiting_after 0 (drop (p + 1) z)
  pub mask : bit_and m (m - 1) ≡ nonzero_mask (drop (p + 1) z) * 2 ^ (p + 1)

turn_of : (z : List ℤ) (run m n at t : ℕ) → length z ≡ 64 → at ≤ 64 → Next (drop at z) n t → m ≡ n * 2 ^ at → Turn z run m at (at + t)
turn_of z run m n at t h l x e =
    let long : length (drop at z) ≡ 64 - at = omega (arith, length-drop at z) in
    let here : lane (drop at z) t ≡ lane z (at + t) = get_or-drop at z t (pos 0) in
    let behind : drop (suc t) (drop at z) ≡ drop (at + t + 1) z = drop-drop (suc t) at z ∙ ap (λ (k : ℕ). drop k z) (reach at t) in
    let rest : drop t (drop at z) ≡ lane z (at + t) ∷ drop (at + t + 1) z =
    drop-cons (drop at z) t (pos 0) x.inside ∙ ap (λ (c : ℤ). c ∷ drop (suc t) (drop at z)) here ∙ ap (λ (k : List ℤ). lane z (at + t) ∷ k) behind in
    let ne : lane z (at + t) ≡ pos 0 → ⊥ = λ f. x.some (here ∙ f) in
    let by : run + t ≡ run + (at + t - at) = omega arith in
    record {
      from = omega arith;
      inside = omega (arith, x.inside);
      some = ne;
      codes =
          x.codes run ∙ ap (places_codes (run + t)) rest ∙ value_codes (lane z (at + t)) (run + t) (drop (at + t + 1) z) ne
          ∙ ap (λ (k : ℕ). (run_code k ++ value_code (code_of (lane z (at + t)))) ++ places_codes 0 (drop (at + t + 1) z)) by;
      waits = x.waits run ∙ ap (waiting_after (run + t)) rest ∙ value_waits (lane z (at + t)) (run + t) (drop (at + t + 1) z) ne;
      mask =
          cleared m (nonzero_mask (drop (suc t) (drop at z))) (at + t) (scaled m n (nonzero_mask (drop (suc t) (drop at z))) at t e x.whole)
          ∙ ap₂ (λ (l : List ℤ) (k : ℕ). nonzero_mask l * 2 ^ k) behind (sym (add-one (at + t)));
    }
  where
    reach : (a t : ℕ) → a + suc t ≡ a + t + 1
    reach a t = omega arith

pub turn : {z : List ℤ} {a₀ : BitAcc} {o₀ : List ℕ} {run₀ : ℕ} {a : BitAcc} {o : List ℕ} {run m at : ℕ} → length z ≡ 64 → Going z a₀ o₀ run₀ a o run m at
    → (m ≡ 0 → ⊥) → Turn z run m at (count_trailing_zeros 64 m)
turn {z} {run} {m} {at} h g ne =
    let fuel : 64 ≡ at + (64 - at) = omega (arith, g.at_le) in
    let long : length (drop at z) ≤ 64 - at = omega (arith, length-drop at z) in
    let e : count_trailing_zeros 64 m ≡ at + count_trailing_zeros (64 - at) (nonzero_mask (drop at z)) =
    ap₂ count_trailing_zeros fuel g.mask ∙ shifted at (64 - at) (nonzero_mask (drop at z)) in
    subst (λ (p : ℕ). Turn z run m at p) (sym e)
    (turn_of z run m (nonzero_mask (drop at z)) at (count_trailing_zeros (64 - at) (nonzero_mask (drop at z))) h g.at_le
    (next (64 - at) (drop at z) long (λ f. ne (g.mask ∙ ap (λ (k : ℕ). k * 2 ^ at) f ∙ zero-mul (2 ^ at)))) g.mask)

-- its bits fit
pub turn_room : {z : List ℤ} {a₀ : BitAcc} {o₀ : List ℕ} {run₀ : ℕ} {a : BitAcc} {o : List ℕ} {run m at p : ℕ} → Room a₀ (length (places_codes run₀ (drop 1 z))) o₀
    → Going z a₀ o₀ run₀ a o run m at → Turn z run m at p → Room a (length (run_code (run + (p - at)) ++ value_code (code_of (lane z p)))) o
turn_room {z} {run₀} {run} {at} {p} r g s =
    let e = ap length (sym g.codes) ∙ length-append g.done (places_codes run (drop at z)) in
    let f = ap length s.codes ∙ length-append (run_code (run + (p - at)) ++ value_code (code_of (lane z p))) (places_codes 0 (drop (p + 1) z)) in
    put_room g.done (length (run_code (run + (p - at)) ++ value_code (code_of (lane z p)))) (length (places_codes run₀ (drop 1 z))) r g.wrote (omega (arith, e, f))

pub gone : {z : List ℤ} {a₀ : BitAcc} {o₀ : List ℕ} {run₀ : ℕ} {a : BitAcc} {o : List ℕ} {run m at p : ℕ} {b : BitAcc} {w : List ℕ}
    → Going z a₀ o₀ run₀ a o run m at → Turn z run m at p → Put a o (run_code (run + (p - at)) ++ value_code (code_of (lane z p))) b w
    → Going z a₀ o₀ run₀ b w 0 (bit_and m (m - 1)) (p + 1)
gone {z} {a₀} {run} {at} {p} g s v =
    record {
      done = g.done ++ (run_code (run + (p - at)) ++ value_code (code_of (lane z p)));
      wrote = put_put a₀ g.done (run_code (run + (p - at)) ++ value_code (code_of (lane z p))) g.wrote v;
      codes =
          append_assoc g.done (run_code (run + (p - at)) ++ value_code (code_of (lane z p))) (places_codes 0 (drop (p + 1) z))
          ∙ ap (λ (l : List Bool). g.done ++ l) (sym s.codes)
          ∙ g.codes;
      waits = sym s.waits ∙ g.waits;
      mask = s.mask;
      at_le = omega (arith, s.inside);
      few = omega arith;
    }

-- ---- the end, and what the whole block put
pub whole : {z : List ℤ} {a₀ : BitAcc} {o₀ : List ℕ} (w : ℕ) {a : BitAcc} {o : List ℕ} {run m at : ℕ} → length z ≡ 64 → Going z a₀ o₀ (w + 1) a o run m at → m ≡ 0
    → Put a₀ o₀ (places_codes w (with_dc (pos 0) z)) a o × (run + (64 - at) ≡ waiting_after w (with_dc (pos 0) z))
whole {z = []} w h g e = absurd (omega arith)
whole {z = c ∷ z} {a₀} {o₀} w {a} {o} {run} {m} {at} h g e =
    let n = none (drop at (c ∷ z)) (none_left (nonzero_mask (drop at (c ∷ z))) at (sym g.mask ∙ e)) run in
    let all : g.done ≡ places_codes (w + 1) z = sym (append-nil g.done) ∙ ap (λ (l : List Bool). g.done ++ l) (sym n.0) ∙ g.codes in (
      subst (λ (l : List Bool). Put a₀ o₀ l a o) (all ∙ ap (λ (k : ℕ). places_codes k z) (add-one w) ∙ sym (first_codes w c z)) g.wrote,
      omega (arith, n.1, length-drop at (c ∷ z)) ∙ g.waits ∙ ap (λ (k : ℕ). waiting_after k z) (add-one w) ∙ sym (first_waits w c z),
    )

-- the room asked for, without place 0
pub room_tail : (z : List ℤ) (w : ℕ) (a : BitAcc) (o : List ℕ) → length z ≡ 64 → Room a (length (places_codes w (with_dc (pos 0) z))) o → Room a (length (places_codes (w + 1) (drop 1 z))) o
room_tail [] w a o h r = absurd (omega arith)
room_tail (c ∷ z) w a o h r =
    subst (λ (l : List Bool). Room a (length l) o) (first_codes w c z ∙ ap (λ (k : ℕ). places_codes k z) (sym (add-one w))) r
