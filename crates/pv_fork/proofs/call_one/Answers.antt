use Rattle.std.specs.Fork.{ChangesAt}
use Rattle.pv_fork.proofs.Apart.{one_part}
use Rattle.pv_fork.proofs.call_one.Goals as goal

pub returns : goal.returns
returns g c = one_part (ChangesAt g.F.Fn c.args.f.now) c.args.base c.args.s.now _ c.call_at.new.place c.requires.one c.call_at.ensures
