-- Why a text is not stored or printed, as the code that does it sees it.
use Rattle.std.specs.Prelude.{◌≡◌, List, ℕ}
use Rattle.clap.specs.Words.{Text}
use Rattle.pv_io.specs.Outside.{Rose, AppendsFront}
use Rattle.pv_rule.specs.Systems.{Files, AreOnlyRead}
use Rattle.pv_product.specs.Ends.{Stream, AreOthersKept}
use Rattle.pv_request.specs.declared.refusal.Refusal.{Refusal}
use Rattle.pv_request.specs.declared.refusal.Refusal.TheVariants.{NotStored, NotPrinted, Memory}

abbrev pub RefusesStore : Text → Files → Files → Refusal → Type 0
RefusesStore name before after (NotStored n) =
    (n.now ≡ name) × AreOthersKept name before after × Rose before.store_faults after.store_faults
RefusesStore name before after Memory = AreOnlyRead before after
RefusesStore name before after _ = ⊥

-- a front of the text was printed
abbrev pub RefusesPrint : Stream → Stream → List ℕ → Refusal → Type 0
RefusesPrint before after text NotPrinted =
    AppendsFront before.written after.written text × Rose before.faults after.faults
RefusesPrint before after text Memory = AppendsFront before.written after.written text
RefusesPrint before after text _ = ⊥
