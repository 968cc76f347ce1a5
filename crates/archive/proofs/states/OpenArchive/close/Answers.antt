use Rattle.std.proofs.Common.{◌≡◌, rules}
use Rattle.encoding.specs.Format.{last_field}
use Rattle.archive.specs.Writing.{patched}
use Rattle.archive.proofs.Chains.{finished}
use Rattle.archive.proofs.states.OpenArchive.close.Goals as goal

pub returns-clause-keeps : goal.returns-clause-keeps
returns-clause-keeps c =
    let written : c.put.new.bytes ≡ patched c.args.bytes.now c.args.self.len (last_field c.args.self.plans) = search rules in
    finished c.args.self c.args.bytes.now _ written
