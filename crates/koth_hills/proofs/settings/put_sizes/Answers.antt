-- One option after another.
use Rattle.koth_hills.proofs.Parts.{five_parts}
use Rattle.koth_hills.proofs.settings.put_sizes.Goals as goal

pub returns : goal.returns
returns g c = five_parts c.put_option-5.result c.args.text.now.items c.put_option.new.text.items c.put_option-2.new.text.items c.put_option-3.new.text.items c.put_option-4.new.text.items c.put_option-5.new.text.items _ _ _ _ _ c.in_ok-put_option.ensures c.in_ok-put_option-2.ensures c.in_ok-put_option-3.ensures c.in_ok-put_option-4.ensures c.put_option-5.ensures
