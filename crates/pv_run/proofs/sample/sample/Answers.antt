use Rattle.std.proofs.Common.{ap}
use Rattle.pv_slope.specs.Methods.{method_of}
use Rattle.pv_product.specs.Products.{text}
use Rattle.pv_run.proofs.sample.sample.Goals as goal

pub returns-clause-comes : goal.returns-clause-comes
returns-clause-comes g c =
    let by = c.in-Ok.ensures.rule in
    record {
      settings = c.settings-settings.result;
      settings_are = c.settings-settings.ensures;
      system = by.system;
      means = by.means;
      rule = method_of c.in-Ok.settler;
      rule_is = by.is;
      honest = c.in_ok-report_full.ensures.honest by.system c.settings-settings.result by.is;
      is = ap text c.in_ok-report_full.ensures.report;
    }
