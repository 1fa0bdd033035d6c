-- `put_match`: the number, or nothing.
use Rattle.day_lookup.proofs.SearchLaws.{put-number, put-none, number_fits}
use Rattle.day_lookup.proofs.put_match.Goals as goal

pub bounds-out-found : goal.bounds-out-found
bounds-out-found c = number_fits c.args.so c.args.number c.args.found c.args.out.now c.if-so.true c.requires

pub returns-then-so : goal.returns-then-so
returns-then-so c = put-number c.args.so c.args.number c.args.found c.args.out.now c.if-so.true c.requires

pub returns : goal.returns
returns c = put-none c.args.so c.args.number c.args.found c.args.out.now c.if-so.false
