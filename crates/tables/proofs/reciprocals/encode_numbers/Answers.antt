use Rattle.std.proofs.Common.{rules, ◌≡◌}
use Rattle.tables.specs.Entries.{constant_table, encode_at, encode_of}
use Rattle.tables.proofs.Made.{made}
use Rattle.tables.proofs.reciprocals.Places.{entry_at_lem}
use Rattle.tables.proofs.reciprocals.encode_numbers.Goals as goal

pub returns : goal.returns
unfolding encode_of
returns c =
    made _ (λ s. (s.0.now ≡ constant_table) × (s.1.now ≡ c.args.preset)) (encode_at c.args.preset) 192
    (λ p j y q ok l e. (search rules, let h = entry_at_lem c.args.preset j c.requires l in search (rules, h))) c.from_fn.result _ (search rules) 0 c.from_fn.ensures.items
