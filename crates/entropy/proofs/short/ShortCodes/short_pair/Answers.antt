-- `entropy::short::ShortCodes::short_pair`.
use native.Mathlib.Omega.{arith}
use lib.ListN.{get_or}
use Rattle.entropy.specs.short.Tables.{code_at}
use Rattle.entropy.proofs.short.Laws.{run_at, value_at, above, both}
use Rattle.entropy.proofs.short.ShortCodes.short_pair.Goals as goal

pub join-requires : goal.join-requires
join-requires c =
    let codes = c.args.self.now in
    let r = run_at codes.runs c.args.n codes.runs_are c.requires.0 in
    let v = value_at codes.values c.args.place codes.values_are c.requires.1 in
    rw (r.word, v.word, v.long) (omega (arith, v.few), above _ _ r.fits v.few, v.fits)

pub returns : goal.returns
returns c =
    let codes = c.args.self.now in
    both (get_or codes.runs c.args.n 0) (get_or codes.values c.args.place 0) c.args.n (code_at c.args.place) c.join.result
    (run_at codes.runs c.args.n codes.runs_are c.requires.0) (value_at codes.values c.args.place codes.values_are c.requires.1) c.join.ensures
