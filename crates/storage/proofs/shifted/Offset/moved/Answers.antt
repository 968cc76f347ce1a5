use Rattle.std.proofs.Common.{w32, rules}
use Rattle.std.proofs.lemmas.Int.{wrapping_add_is}
use Rattle.storage.proofs.shifted.Offset.moved.Goals as goal

pub returns : goal.returns
returns c = λ i. record {
  dominating = record {
    x = wrapping_add_is w32 c.args.row.dominating.x c.args.self.dx (search rules) (search rules) i;
    y = wrapping_add_is w32 c.args.row.dominating.y c.args.self.dy (search rules) (search rules) i;
  };
  far = record {
    x = wrapping_add_is w32 c.args.row.far.x c.args.self.dx (search rules) (search rules) i;
    y = wrapping_add_is w32 c.args.row.far.y c.args.self.dy (search rules) (search rules) i;
  };
}
