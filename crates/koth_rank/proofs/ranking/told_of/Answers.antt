-- A part, or the table.
use Rattle.{std.proofs.Common.{◌∙◌}, koth_field.specs.Field.entrants_of, koth_rank.proofs.{Fought.{as_many, many_counts}, Ranked.{told_part, told_table}}}
use Rattle.koth_rank.proofs.ranking.told_of.Goals as goal

pub part_of_field-requires-clause-many : goal.part_of_field-requires-clause-many
part_of_field-requires-clause-many g c = many_counts _ _ _ _ c.requires.are ∙ as_many c.args.members.now

pub returns-in-Some : goal.returns-in-Some
returns-in-Some g c = told_part c.args.settings.now c.args.plan (entrants_of c.args.members.now) c.args.fought.now.standings c.requires.are c.part_of_field.result c.args.plan.share c.in-Some.share c.in-Some.is c.part_of_field.ensures

pub table_told-requires : goal.table_told-requires
table_told-requires g c = many_counts _ _ _ _ c.requires.are ∙ as_many c.args.members.now

pub returns-in-None : goal.returns-in-None
returns-in-None g c = told_table c.args.settings.now c.args.plan (entrants_of c.args.members.now) c.args.fought.now.standings c.requires.are c.table_told.result c.args.plan.share c.args.fought.now.kept.items c.in-None.is c.requires.kept c.table_told.ensures
