-- A pair's number is the bits of both codes. Assumes nothing.
use mathlib.Core.Path.{◌≡◌, refl, sym, ap, ◌∙◌, subst}
use mathlib.Core.Bool.{Bool}
use mathlib.Core.List.{List, ◌++◌}
use Prim.Native.Nat.{ℕ, ◌+◌, ◌*◌, ◌^◌, ◌<◌}
use native.Mathlib.Omega.{arith}
use lib.ListN.{length}
use Rattle.bits.specs.Bits.{bits_of, bit_length, value_code, run_code}
use Rattle.bitwriter.specs.Pairs.{run_word, run_length, value_length, pair_code}
use Rattle.bitwriter.specs.Put.{Put, Room}
use Rattle.bitwriter.specs.declared.BitAcc.{BitAcc}
use Rattle.bitwriter.specs.declared.PairCode.{PairCode}
use Rattle.bitwriter.proofs.Words.{value_word, run_code_lem, both_fits, both_code, both_long}

pub record Pair (n c : ℕ) : Type 0 where
  pub few : run_length n + value_length c < 64
  pub fits : run_word n * 2 ^ value_length c + c < 2 ^ (run_length n + value_length c)
  pub code : run_code n ++ value_code c ≡ bits_of (run_length n + value_length c) (run_word n * 2 ^ value_length c + c)
  pub long : length (run_code n ++ value_code c) ≡ run_length n + value_length c

pub pair_word : (n c : ℕ) → n < 2 ^ 17 → 0 < c → c < 2 ^ 15 → Pair n c
pair_word n c hn p hc =
    let v = value_word 15 c (bit_length c) (omega arith) p hc refl in
    let r = run_code_lem 17 n (bit_length n) (run_word n) (omega arith) hn refl refl in
    record {
      few = omega (arith, r.most, v.most);
      fits = both_fits (run_length n) (value_length c) (run_word n) c r.fits v.fits;
      code = both_code n c (run_length n) (value_length c) (run_word n) r.code v.code v.fits;
      long = both_long n c (run_length n) (value_length c) r.long v.long;
    }

-- ---- a pair that is put
pub pair_asks : {a : BitAcc} {o : List ℕ} {q : PairCode} (n c : ℕ) → q ≡ pair_code n c → n < 2 ^ 17 → 0 < c → c < 2 ^ 15 → Room a (length (run_code n ++ value_code c)) o
    → (q.length < 64) × (q.bits < 2 ^ q.length) × Room a q.length o
pair_asks {a} {o} n c e h k l r =
    let p = pair_word n c h k l in
    rw e (p.few, p.fits, subst (λ (m : ℕ). Room a m o) p.long r)

pub pair_put : (a : BitAcc) {o : List ℕ} {q : PairCode} {b : BitAcc} {w : List ℕ} (n c : ℕ) → q ≡ pair_code n c → n < 2 ^ 17 → 0 < c → c < 2 ^ 15
    → Put a o (bits_of q.length q.bits) b w → Put a o (run_code n ++ value_code c) b w
pair_put a {o} {q} {b} {w} n c e h k l v =
    subst (λ (m : List Bool). Put a o m b w) (ap (λ (x : PairCode). bits_of x.length x.bits) e ∙ sym (pair_word n c h k l).code) v
