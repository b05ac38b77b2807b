use Rattle.std.proofs.Common.{◌≡◌, rules}
use Rattle.pv_product.proofs.Ends.{all_kept, no_less}
use Rattle.pv_deliver.proofs.deliver.keep.Goals as goal

pub returns-in-Err-Memory-clause-refused : goal.returns-in-Err-Memory-clause-refused
returns-in-Err-Memory-clause-refused g c =
    let name = c.args.name.now in
    let same : g.F.Folder.content c.store.new.self name ≡ g.F.Folder.content c.args.folder.now name = search rules in
    let stores : g.F.Folder.store_faults c.store.new.self ≡ g.F.Folder.store_faults c.args.folder.now = search rules in
    record {
      content = all_kept (g.F.Folder.content c.args.folder.now) (g.F.Folder.content c.store.new.self) name same c.store.ensures.others;
      fetch_faults = no_less _ _ c.store.ensures.no_fetch_fault;
      store_faults = stores;
    }
