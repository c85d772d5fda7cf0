use Rattle.{std.proofs.Common.{◌≡◌, sym}, redcode_asm.specs.Assembly.code_of, redcode_asm.proofs.Fitting.{Fits-said, IsSome-from_iff}}
use Rattle.redcode_asm.proofs.assembler.warrior_of.Goals as goal

pub unwrap-requires : goal.unwrap-requires
unwrap-requires g c =
    let settings = c.args.settings.now in
    let said = c.args.said.now in
    let same : code_of said ≡ c.in_ok-code.code.items = cc (c.in_ok-code.ensures) in
    let fits = Fits-said settings c.args.expanded.now.labels c.args.expanded.now.lines said c.in_ok-code.code.items c.in_ok-start.start c.length.ensures.settings c.requires same (sym (rw c.length.ensures.value at c.in_ok-start.ensures)) in
    IsSome-from_iff _ _ _ c.new.ensures (fits _ _)
