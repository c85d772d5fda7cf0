-- Each turn drops the last byte, a blank; the first that is none ends the loop.
use Rattle.{std.proofs.Common.{sym, ◌∙◌}, war_types.proofs.Titles.{before_blanks-last_blank, before_blanks-last_other}}
use Rattle.war_types.proofs.title.without_blanks_behind.Goals as goal

pub loop-rest-preserved : goal.loop-rest-preserved
loop-rest-preserved c =
    before_blanks-last_blank c.loop-rest.rest.now c.in-len1-up.len_at_least (sym c.if-not-is_blank.ensures) ∙ c.loop-rest.invariant

pub returns-then-not-is_blank : goal.returns-then-not-is_blank
returns-then-not-is_blank c =
    sym (before_blanks-last_other c.loop-rest.rest.now c.in-len1-up.len_at_least (sym c.if-not-is_blank.ensures)) ∙ c.loop-rest.invariant
