-- `bitwriter::pair_code`: the value's bits below those of the run.
use native.Mathlib.Omega.{arith}
use Rattle.bitwriter.proofs.Words.{value_word, run_code_lem, above}
use Rattle.bitwriter.proofs.pair_code.Goals as goal

pub join-requires : goal.join-requires
join-requires c =
    let v = value_word 15 c.args.c c.bit_len.result (omega arith) c.requires.1 c.requires.2 c.bit_len.ensures in
    let r = run_code_lem 17 c.args.n c.bit_len-b.result c.run_word.result (omega arith) c.requires.0 c.bit_len-b.ensures c.run_word.ensures in
    (omega (arith, v.most), above c.run_word.result c.bit_len-b.result _ r.fits r.most (omega (arith, v.most)), v.fits)
