use Rattle.std.proofs.Common.{rules, true, slice_set}
use Rattle.rules.specs.Reading.{newest_passing, newest_passes}
use Rattle.visibility.proofs.Chains.{seen_of, seen_by}
use Rattle.visibility.proofs.visible.Goals as goal

pub returns : goal.returns
returns g c = record {
  version = λ w parts holds after node key. seen_of newest_passing _ _ _ _ w _ _ _ _ node key holds (search rules) after (c.newest_passing.ensures.version w parts);
  newest = λ w parts holds after node key. seen_of newest_passes _ _ _ _ w _ _ _ _ node key holds (search rules) after (c.newest_passing.ensures.newest w parts);
  any_version = λ w parts. seen_by newest_passing (slice_set c.args.x.now.read c.args.p true) c.read_after.result c.args.clock w (g.S.VersionStore.meaning c.args.store.now) c.args.p c.args.k _ (search rules) (c.newest_passing.ensures.version w parts);
  any_newest = λ w parts. seen_by newest_passes (slice_set c.args.x.now.read c.args.p true) c.read_after.result c.args.clock w (g.S.VersionStore.meaning c.args.store.now) c.args.p c.args.k _ (search rules) (c.newest_passing.ensures.newest w parts);
}
