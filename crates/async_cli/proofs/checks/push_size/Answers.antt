use Rattle.std.proofs.Common.{◌≡◌, ◌++◌, OnOk, subst}
use Rattle.async_cli.specs.Checks.{size_line}
use Rattle.async_cli.proofs.checks.push_size.Goals as goal

pub returns : goal.returns
returns c =
    subst (λ n. OnOk c.push_two_numbered.result (c.push_two_numbered.new.text.items ≡ c.args.text.now.items ++ size_line c.args.functions n))
    c.from.ensures c.push_two_numbered.ensures
