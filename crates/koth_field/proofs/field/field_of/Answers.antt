-- Each source adds its warrior, or is told.
use Rattle.{std.proofs.{Common.{◌≡◌, ◌+◌, ◌<◌, ◌≤◌, All, length, arith, subst, sym}, KnownBytes.Keeps-refl, lemmas.List.Elements.All-nil}, war_types.specs.Warrior.Fits, koth_commands.specs.declared.status.Status.Status}
use Rattle.{koth_contests.{specs.Opponents.names_of, proofs.Meetings.{as_many, named_here}}, koth_field.specs.{Field.entrants_of, declared.field.Member.Member}}
use Rattle.koth_field.proofs.Members.{SoFar, TellsSo, all_read, none_so_far, one_missing, one_there, read_failed, tells_kept, tells_more}
use Rattle.koth_field.proofs.field.field_of.Goals as goal
use Rattle.koth_field.proofs.field.field_of.Goals.{in-Done, in-Refused}

pub loop-place-init : goal.loop-place-init
loop-place-init g c =
    let s = c.args.settings.now in
    let none = sym c.requires in
    record {
      read = subst (λ l. SoFar s (names_of c.args.sources.now) 0 Status.Done (entrants_of l)) none (none_so_far s (names_of c.args.sources.now));
      told = Keeps-refl (g.E.Write.contents c.args.errors.now);
      fit = subst (λ l. All (λ (m : Member _). Fits s m.warrior) l) none (All-nil _);
      few = subst (λ l. length l ≤ 0) none (omega arith);
    }

pub loop-place-preserved : goal.loop-place-preserved
loop-place-preserved g c =
    let s = c.args.settings.now in
    let files = names_of c.args.sources.now in
    let within : c.loop-place.place < length files = omega (arith, as_many c.args.sources.now, c.loop-place-test.true) in
    let here = named_here c.args.sources.now c.loop-place.place c.index-sources-place.result c.loop-place-test.true c.index-sources-place.is in
    let e = g.E.Write.contents c.args.errors.now in
    let h = g.E.Write.contents c.put_member.new.errors in
    let new = entrants_of c.put_member.new.members.items in
    elim c.match-put_member.branch [
      | in-Done w ↦ record {
        read = subst (λ t. SoFar s files (c.loop-place.place + 1) t new) (sym w.status-is)
            (one_there s files c.loop-place.place c.loop-place.status _ new _ _ _ within here c.loop-place.invariant.read w.in-Done.ensures.puts);
        told = subst (λ t. TellsSo t e h) (sym w.status-is) (tells_kept c.loop-place.status _ _ _ c.loop-place.invariant.told w.in-Done.ensures.puts.1);
        fit = c.put_member.ensures.fit;
        few = omega (arith, c.put_member.ensures.few, c.loop-place.invariant.few);
      }
      | in-Refused w ↦ record {
        read = subst (λ t. SoFar s files (c.loop-place.place + 1) t new) (sym w.status-is)
            (one_missing s files c.loop-place.place c.loop-place.status _ new _ _ _ within here c.loop-place.invariant.read w.in-Refused.ensures.puts);
        told = subst (λ t. TellsSo t e h) (sym w.status-is) (tells_more c.loop-place.status _ _ _ c.loop-place.invariant.told w.in-Refused.ensures.puts.1);
        fit = c.put_member.ensures.fit;
        few = omega (arith, c.put_member.ensures.few, c.loop-place.invariant.few);
      }
    ]

pub returns-in_default-clause-ends : goal.returns-in_default-clause-ends
returns-in_default-clause-ends g c =
    read_failed c.args.settings.now (names_of c.args.sources.now) c.loop-place.status c.put_member.result _ _ _ _ _ _ _
    c.in_default.not-Done c.in_default.not-Refused c.loop-place.invariant.told c.put_member.ensures.puts

pub returns-clause-ends : goal.returns-clause-ends
returns-clause-ends g c =
    let past : length (names_of c.args.sources.now) ≤ c.loop-place.place = omega (arith, as_many c.args.sources.now, c.loop-place-test.false) in
    all_read c.args.settings.now (names_of c.args.sources.now) c.loop-place.place _ _ _ past c.loop-place.status c.loop-place.invariant.read c.loop-place.invariant.told
