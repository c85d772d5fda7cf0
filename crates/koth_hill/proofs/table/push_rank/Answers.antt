use Rattle.{std.proofs.{Common.{◌∙◌, ◌∷◌, [], ap, refl, sym, arith}, lemmas.List.{map-append, length-map}}, koth_hill.specs.{Rows.{row_parts, rows_parts}, Kept.{Entrant, members_of}}}
use Rattle.koth_hill.proofs.Tables.{member-at, row-pushed, row-passed, rows-last}
use Rattle.koth_hill.proofs.table.push_rank.Goals.{then-rank_among-rank+in_ok-push, else-rank_among-rank}
use Rattle.koth_hill.proofs.table.push_rank.Goals as goal

pub loop-i-preserved : goal.loop-i-preserved
loop-i-preserved g c =
    let each = length-map c.args.members.now (λ (e : Entrant). e.member) in
    elim c.if-rank_among-rank.branch [
      | then-rank_among-rank+in_ok-push w ↦
          rw w.rows-is (row-pushed c.args.scores.now c.args.rank (members_of c.args.members.now) c.args.scores.now c.loop-i.i c.index-members-i.result.member _ (rows_parts c.loop-i.rows.items) _ _ (row_parts w.row.result)
          (omega (arith, c.loop-i-test.true, each)) (c.requires.beside ∙ sym each) (member-at c.args.members.now c.loop-i.i c.index-members-i.result c.loop-i-test.true c.index-members-i.is)
          (sym c.rank_among.ensures ∙ w.if-rank_among-rank.true) c.loop-i.invariant w.row.ensures
          (ap rows_parts w.in_ok-push.ensures.items ∙ map-append row_parts c.loop-i.rows.items (w.row.result ∷ [])))
      | else-rank_among-rank w ↦
          rw w.rows-is (row-passed c.args.scores.now c.args.rank (members_of c.args.members.now) c.args.scores.now c.loop-i.i c.index-members-i.result.member _ (rows_parts c.loop-i.rows.items) _
          (omega (arith, c.loop-i-test.true, each)) (c.requires.beside ∙ sym each) (member-at c.args.members.now c.loop-i.i c.index-members-i.result c.loop-i-test.true c.index-members-i.is)
          (λ e. w.if-rank_among-rank.false (c.rank_among.ensures ∙ e)) c.loop-i.invariant)
    ]

pub loop-i-init : goal.loop-i-init
loop-i-init g c = refl

pub bounds-scores-i : goal.bounds-scores-i
bounds-scores-i g c = omega (arith, c.loop-i-test.true, c.requires.beside)

pub rank_among-requires : goal.rank_among-requires
rank_among-requires g c = omega (arith, c.requires.beside, c.requires.few)

pub returns : goal.returns
returns g c =
    rows-last c.args.scores.now c.args.rank (members_of c.args.members.now) c.args.scores.now c.loop-i.i (rows_parts c.loop-i.rows.items) _
    (omega (arith, c.loop-i-test.false, length-map c.args.members.now (λ (e : Entrant). e.member))) c.loop-i.invariant
