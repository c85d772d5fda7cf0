use Rattle.sector_disk.proofs.Choices.{each_image_chosen}
use Rattle.sector_disk.proofs.laws.each_image_is_chosen.Goals as goal

pub returns : goal.returns
returns g c = each_image_chosen c.args._device.now
