use Rattle.{std.proofs.Common.{◌≡◌, ℕ, ◌≤◌, List, Result, arith, length, le-ltb, sym, ap, subst, ◌∙◌}, war_types.specs.{declared.settings.RawSettings.RawSettings, declared.fault.AsmFault.AsmFault}}
use Rattle.{redcode_lines.specs.{Source.{NumberedLine, lines_of, numbered_from, live_lines}, Line.SourceLine, Block.{parsed, source_lines}}, redcode_names.specs.Gives.Gives}
use Rattle.{redcode_expand.specs.{Expansion.{Expansion, expansion, expansion_of_blocks}, Cut.{shown, with_shown}}, redcode_expand.specs.{Steps.{are_plain, reads}, Taken.{blocks_steps, steps_taken}}, redcode_expand.proofs.{Budget.most-within, Plain.reads-few, Counted.labels-stand, Shown.if-counted, WrittenOut.blocks-written}}
use Rattle.redcode_expand.proofs.expanded.expand_within.Goals as goal

-- the result of the walk over all lines is due
expansion-found : (s : RawSettings) (source text : List ℕ) (number : ℕ) (lines : List SourceLine) → length source ≤ 65536
    → numbered_from number (lines_of text) ≡ live_lines source → lines ≡ source_lines (numbered_from number (lines_of text))
    → expansion s source ≡ expansion_of_blocks s (parsed lines)
unfolding expansion
expansion-found s source text number lines short live are =
    rw (le-ltb 65536 _ short)
    (ap (λ (ls : List SourceLine). expansion_of_blocks s (parsed ls)) (sym (are ∙ ap (λ (ns : List NumberedLine). source_lines ns) live)))

pub returns-clause-gives : goal.returns-clause-gives
returns-clause-gives g c =
    let s = c.args.settings.now in
    let due = expansion-found s c.args.source.now c.live_source-number.result.1.now c.live_source-number.result.0 c.as_slice.result.now
    c.if-source-gt-SOURCE_LIMIT.false c.live_source-number.ensures.lines (c.as_slice.ensures.value ∙ c.in_ok-lines.ensures.lines) in
    subst (λ (r : Result Expansion AsmFault). Gives shown c.expanded_lines.result (with_shown r)) (sym due) c.expanded_lines.ensures.expanded

pub returns-clause-written : goal.returns-clause-written
returns-clause-written g c = blocks-written c.args.settings.now

pub returns-clause-labels : goal.returns-clause-labels
returns-clause-labels g c = labels-stand c.args.settings.now

pub returns-clause-counted : goal.returns-clause-counted
returns-clause-counted g c = if-counted c.args.settings.now c.args.source.now c.expanded_lines.result (returns-clause-gives g c)

pub returns-then-source-gt-SOURCE_LIMIT-clause-written : goal.returns-then-source-gt-SOURCE_LIMIT-clause-written
returns-then-source-gt-SOURCE_LIMIT-clause-written g c = blocks-written c.args.settings.now

pub returns-then-source-gt-SOURCE_LIMIT-clause-labels : goal.returns-then-source-gt-SOURCE_LIMIT-clause-labels
returns-then-source-gt-SOURCE_LIMIT-clause-labels g c = labels-stand c.args.settings.now

pub returns-in_err-lines-clause-written : goal.returns-in_err-lines-clause-written
returns-in_err-lines-clause-written g c = blocks-written c.args.settings.now

pub returns-in_err-lines-clause-labels : goal.returns-in_err-lines-clause-labels
returns-in_err-lines-clause-labels g c = labels-stand c.args.settings.now

pub returns-clause-steps : goal.returns-clause-steps
returns-clause-steps g c =
    most-within c.args.steps.now c.expanded_lines.new.steps c.line_steps-most.result (length c.args.source.now) c.line_steps-most.ensures.steps c.expanded_lines.ensures.steps

pub returns-clause-taken : goal.returns-clause-taken
unfolding steps_taken
returns-clause-taken g c =
    let live = c.as_slice.ensures.value ∙ c.in_ok-lines.ensures.lines ∙ ap (λ (ns : List NumberedLine). source_lines ns) c.live_source-number.ensures.lines in
    omega (arith, c.expanded_lines.ensures.taken, ap (λ (ls : List SourceLine). blocks_steps c.args.settings.now (parsed ls)) live)

pub returns-clause-plain : goal.returns-clause-plain
returns-clause-plain g c plain =
    let live = c.as_slice.ensures.value ∙ c.in_ok-lines.ensures.lines ∙ ap (λ (ns : List NumberedLine). source_lines ns) c.live_source-number.ensures.lines in
    omega (arith, c.expanded_lines.ensures.plain (ap are_plain live ∙ plain), ap reads live, reads-few c.args.source.now)
