-- `sheet::kinds::form_in` meets its contract: the code's table is, as a whole, the list of the forms of 01's kinds.
use Rattle.std.proofs.Common.{◌≡◌, get_or, arith, ◌∙◌}
use Rattle.std.proofs.lemmas.Grind.{common_steps}
use Rattle.sheet.specs.Inner.Kinds.{no_form}
use Rattle.sheet.proofs.PartsRead.{form_found}
use Rattle.sheet.proofs.kinds.form_in.Goals as goal

pub returns : goal.returns
returns c =
    let found : c.unwrap_or.result ≡ get_or c.args.forms c.args.kind no_form = grind (arith, common_steps) in
    found ∙ form_found _ c.requires
