use Rattle.koth_files.proofs.moving.new_header.Goals as goal

pub returns-in-Some : goal.returns-in-Some
returns-in-Some c = c.of_parity.ensures c.args.bytes.now c.in-Some.ensures

pub returns-in-None : goal.returns-in-None
returns-in-None c = λ h parity is. c.in-None.ensures h is
