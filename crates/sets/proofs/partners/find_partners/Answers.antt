-- `sets::partners::find_partners` meets its contract: the rest of the pass from each row ends where the whole pass does.
use Rattle.sets.proofs.PartnerPass.{finding_starts, both_listed, finding_on, found_all, part_read}
use Rattle.sets.proofs.SheetRows.{form_read}
use Rattle.sets.proofs.partners.find_partners.Goals as goal

pub loop-number-init : goal.loop-number-init
loop-number-init c =
    finding_starts _ _ _ _ c.requires

pub partner_step-top-requires : goal.partner_step-top-requires
partner_step-top-requires c =
    both_listed _ _ _ _ c.requires c.loop-number.invariant c.loop-number-test.true (λ p h. (c.args.laid.readable p h).numbered)

pub loop-number-preserved : goal.loop-number-preserved
loop-number-preserved c =
    finding_on _ _ _ _ _ _ _ _ c.loop-number.invariant c.loop-number-test.true _
    (part_read (c.args.laid.readable _ c.loop-number-test.true) (form_read c.forms-forms.ensures c.kind_of-kind.ensures)) _ _ _ c.partner_step-top.ensures
    c.partner_step-top.auto.came c.partner_step-top.auto.goes

pub returns : goal.returns
returns c = found_all _ _ _ _ _ _ _ _ c.loop-number.invariant c.loop-number-test.false
