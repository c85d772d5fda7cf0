use Rattle.{std.proofs.Common.{◌∙◌, ap, arith, length-take, refl, sym}, koth_match.specs.Match.no_rounds, koth_hill.specs.Kept.{Kept, kept_of, members_of, rows_of}}
use Rattle.koth_hill.proofs.{Hills.few-entrants, Matches.{fits-at, many-matches}, Audits.{all-entrants-fit, fit-before, true-all, true-more}}
use Rattle.koth_hill.proofs.Untruths.{at-member, first-before, first-untrue, older-at, same-long, same-so_far}
use Rattle.koth_hill.proofs.hill.Hill.first_untrue.Goals as goal

pub matches_with-bouts-requires-clause-older : goal.matches_with-bouts-requires-clause-older
matches_with-bouts-requires-clause-older g c =
    let es = c.self.inside.members.items in
    let seen = kept_of c.self.inside.settings c.self.inside.counter (members_of es) (rows_of es) in
    fit-before c.self.inside.settings c.as_slice-members.result.now c.loop-i.i
    (all-entrants-fit seen es c.as_slice-members.result.now refl c.as_slice-members.ensures.value c.self.invariant.0)

pub matches_with-bouts-requires-clause-fits : goal.matches_with-bouts-requires-clause-fits
matches_with-bouts-requires-clause-fits g c =
    let es = c.self.inside.members.items in
    let seen = kept_of c.self.inside.settings c.self.inside.counter (members_of es) (rows_of es) in
    fits-at c.self.inside.settings c.as_slice-members.result.now c.loop-i.i c.index-members-i.result c.warrior.result.now
    c.loop-i-test.true c.index-members-i.is c.warrior.ensures
    (all-entrants-fit seen es c.as_slice-members.result.now refl c.as_slice-members.ensures.value c.self.invariant.0)

pub first_difference-requires : goal.first_difference-requires
first_difference-requires g c =
    let at = at-member c.args.self.now c.self.inside.settings c.self.inside.counter c.self.inside.members.items c.as_slice-members.result.now c.self.view_is
    c.as_slice-members.ensures.value c.loop-i.i c.index-members-i.result c.warrior.result.now c.as_slice-kept.result.now c.as_slice-fought.result.now c.self.invariant.0
    c.loop-i-test.true c.index-members-i.is c.warrior.ensures (c.as_slice-kept.ensures.value ∙ c.bouts.ensures)
    (c.as_slice-fought.ensures.value ∙ c.matches_with-bouts.ensures.value) in
    same-long c.args.self.now c.loop-i.i c.index-members-i.result.member c.as_slice-kept.result.now c.as_slice-fought.result.now at

pub returns-in-Some-clause-some : goal.returns-in-Some-clause-some
returns-in-Some-clause-some g c =
    let fought = c.as_slice-fought.ensures.value ∙ c.matches_with-bouts.ensures.value in
    let at = at-member c.args.self.now c.self.inside.settings c.self.inside.counter c.self.inside.members.items c.as_slice-members.result.now c.self.view_is
    c.as_slice-members.ensures.value c.loop-i.i c.index-members-i.result c.warrior.result.now c.as_slice-kept.result.now c.as_slice-fought.result.now c.self.invariant.0
    c.loop-i-test.true c.index-members-i.is c.warrior.ensures (c.as_slice-kept.ensures.value ∙ c.bouts.ensures) fought in
    let older = older-at c.args.self.now c.self.inside.settings c.self.inside.counter c.self.inside.members.items c.as_slice-members.result.now c.self.view_is
    c.as_slice-members.ensures.value c.in-Some.place c.loop-i.i c.index-members-place.result c.warrior.result.now c.as_slice-fought.result.now
    c.in-Some.ensures.beside fought c.index-members-place.is in
    first-untrue c.args.self.now c.in-Some.place c.loop-i.i c.index-members-place.result.member c.index-members-i.result.member
    c.as_slice-kept.result.now c.as_slice-fought.result.now at older c.entry.result c.entry-in-Some.result c.entry.ensures c.entry-in-Some.ensures c.in-Some.ensures.first
    no_rounds c.in-Some.ensures.within c.in-Some.ensures.beside

pub returns-in-Some-clause-first : goal.returns-in-Some-clause-first
returns-in-Some-clause-first g c =
    let fought = c.as_slice-fought.ensures.value ∙ c.matches_with-bouts.ensures.value in
    let at = at-member c.args.self.now c.self.inside.settings c.self.inside.counter c.self.inside.members.items c.as_slice-members.result.now c.self.view_is
    c.as_slice-members.ensures.value c.loop-i.i c.index-members-i.result c.warrior.result.now c.as_slice-kept.result.now c.as_slice-fought.result.now c.self.invariant.0
    c.loop-i-test.true c.index-members-i.is c.warrior.ensures (c.as_slice-kept.ensures.value ∙ c.bouts.ensures) fought in
    let older = older-at c.args.self.now c.self.inside.settings c.self.inside.counter c.self.inside.members.items c.as_slice-members.result.now c.self.view_is
    c.as_slice-members.ensures.value c.in-Some.place c.loop-i.i c.index-members-place.result c.warrior.result.now c.as_slice-fought.result.now
    c.in-Some.ensures.beside fought c.index-members-place.is in
    first-before c.args.self.now c.in-Some.place c.loop-i.i c.index-members-place.result.member c.index-members-i.result.member
    c.as_slice-kept.result.now c.as_slice-fought.result.now at older c.entry.result c.entry-in-Some.result c.entry.ensures c.entry-in-Some.ensures c.in-Some.ensures.first
    (same-so_far c.args.self.now c.self.inside.settings c.self.inside.counter c.self.inside.members.items c.as_slice-members.result.now c.self.view_is
    c.as_slice-members.ensures.value c.loop-i.i c.loop-i.invariant.fought)

pub loop-i-preserved : goal.loop-i-preserved
loop-i-preserved g c = record {
  fought = true-more c.self.inside.settings c.args.self.now.settings c.as_slice-members.result.now c.loop-i.i c.index-members-i.result
      c.warrior.result.now c.as_slice-fought.result.now c.as_slice-kept.result.now
      (ap (λ (k : Kept). k.settings) c.self.view_is) c.loop-i-test.true c.index-members-i.is c.warrior.ensures
      (c.as_slice-fought.ensures.value ∙ c.matches_with-bouts.ensures.value) (c.as_slice-kept.ensures.value ∙ c.bouts.ensures)
      (sym (c.in_default.ensures.none refl)) c.loop-i.invariant.fought;
  settings = c.matches_with-bouts.ensures.settings ∙ c.loop-i.invariant.settings;
}

pub returns-clause-none : goal.returns-clause-none
returns-clause-none g c none =
    true-all c.args.self.now c.self.inside.members.items c.as_slice-members.result.now c.loop-i.i
    (ap (λ (k : Kept). k.members) c.self.view_is) (ap (λ (k : Kept). k.results) c.self.view_is) c.as_slice-members.ensures.value
    (omega (arith, c.loop-i-test.false)) c.loop-i.invariant.fought

pub loop-i-init : goal.loop-i-init
loop-i-init g c = record { fought = refl; settings = refl }

pub slice_bounds-matches_with-end : goal.slice_bounds-matches_with-end
slice_bounds-matches_with-end g c = omega (arith, c.loop-i-test.true, length-take c.loop-i.i c.as_slice-members.result.now)

pub matches_with-bouts-requires-clause-settings : goal.matches_with-bouts-requires-clause-settings
matches_with-bouts-requires-clause-settings g c = c.loop-i.invariant.settings ∙ c.requires ∙ ap (λ (k : Kept). k.settings) (sym c.self.view_is)

pub matches_with-bouts-requires-clause-few : goal.matches_with-bouts-requires-clause-few
matches_with-bouts-requires-clause-few g c =
    let es = c.self.inside.members.items in
    omega (arith, length-take c.loop-i.i c.as_slice-members.result.now, few-entrants (kept_of c.self.inside.settings c.self.inside.counter (members_of es) (rows_of es)) c.as_slice-members.result.now (ap members_of c.as_slice-members.ensures.value) c.self.invariant.0)

pub bounds-members-place : goal.bounds-members-place
bounds-members-place g c =
    let many = many-matches c.self.inside.settings c.as_slice-members.result.now c.loop-i.i c.warrior.result.now c.as_slice-fought.result.now (omega (arith, c.loop-i-test.true)) (c.as_slice-fought.ensures.value ∙ c.matches_with-bouts.ensures.value) in
    omega (arith, many, c.in-Some.ensures.beside, c.loop-i-test.true)

pub bounds-kept-place : goal.bounds-kept-place
bounds-kept-place g c = c.in-Some.ensures.within

pub bounds-fought-place : goal.bounds-fought-place
bounds-fought-place g c = c.in-Some.ensures.beside

pub returns-in-Some-clause-none : goal.returns-in-Some-clause-none
returns-in-Some-clause-none g c = λ none. cc

pub returns-in-Some-clause-arena : goal.returns-in-Some-clause-arena
returns-in-Some-clause-arena g c = c.matches_with-bouts.ensures.settings ∙ c.loop-i.invariant.settings

pub returns-clause-arena : goal.returns-clause-arena
returns-clause-arena g c = c.loop-i.invariant.settings

pub offset_bounds-members-place : goal.offset_bounds-members-place
offset_bounds-members-place g c =
    let many = many-matches c.self.inside.settings c.as_slice-members.result.now c.loop-i.i c.warrior.result.now c.as_slice-fought.result.now (omega (arith, c.loop-i-test.true)) (c.as_slice-fought.ensures.value ∙ c.matches_with-bouts.ensures.value) in
    omega (arith, many, c.in-Some.ensures.beside, c.loop-i-test.true)
