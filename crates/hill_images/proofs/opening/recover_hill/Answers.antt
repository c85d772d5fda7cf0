use Rattle.{std.proofs.Common.{refl, rules, subst, sym}, sector_disk.proofs.Kept.kept_same, hill_bytes.specs.Layout.layout_of, hill_images.specs.Reading.HillRefused}
use Rattle.hill_images.proofs.Openings.{not_read}
use Rattle.hill_images.proofs.opening.recover_hill.Goals as goal

pub returns-in-Ok-read_hill-clause-found : goal.returns-in-Ok-read_hill-clause-found
returns-in-Ok-read_hill-clause-found g c = record {
  same = refl;
  header = c.settings.ensures.header;
  arena_of = search rules;
  room = search rules;
  read = c.in-Ok-read_hill.ensures.read;
}

pub returns-in-Err-read_hill-clause-refused : goal.returns-in-Err-read_hill-clause-refused
returns-in-Err-read_hill-clause-refused g c =
    subst (HillRefused (layout_of c.args.format) g.D.Device.facts c.args.device.now c.read_hill.new.device c.args.header) (sym c.refusal_of.ensures)
    (not_read (layout_of c.args.format) g.D.Device.facts c.args.device.now c.read_hill.new.device c.args.header c.in-Err-read_hill.unread (search rules) c.in-Err-read_hill.ensures.unread)

pub read_hill-requires-clause-room : goal.read_hill-requires-clause-room
read_hill-requires-clause-room g c = c.requires

pub returns-then-sectors-sectors_in-clause-kept : goal.returns-then-sectors-sectors_in-clause-kept
returns-then-sectors-sectors_in-clause-kept g c = kept_same g.D.Device.facts c.args.device.now

pub returns-in-Err-clause-kept : goal.returns-in-Err-clause-kept
returns-in-Err-clause-kept g c = kept_same g.D.Device.facts c.args.device.now

pub returns-in-Ok-read_hill-clause-kept : goal.returns-in-Ok-read_hill-clause-kept
returns-in-Ok-read_hill-clause-kept g c = c.in-Ok-read_hill.ensures.kept

pub returns-in-Ok-read_hill-clause-same : goal.returns-in-Ok-read_hill-clause-same
returns-in-Ok-read_hill-clause-same g c = c.in-Ok-read_hill.ensures.same

pub returns-in-Err-read_hill-clause-kept : goal.returns-in-Err-read_hill-clause-kept
returns-in-Err-read_hill-clause-kept g c = c.in-Err-read_hill.ensures.kept

pub returns-in-Err-read_hill-clause-same : goal.returns-in-Err-read_hill-clause-same
returns-in-Err-read_hill-clause-same g c = c.in-Err-read_hill.ensures.same
