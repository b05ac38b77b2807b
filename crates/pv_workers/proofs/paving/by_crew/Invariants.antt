use Rattle.pv_workers.proofs.paving.by_crew.Given as goal

abbrev pub ghosts-pave_named : goal.ghosts-pave_named
ghosts-pave_named g a = record {
  rule = g.S.Settler.settle_of a.settler.now;
  dims = g.S.Settler.dims a.settler.now;
  depth = g.S.Settler.depth_of a.settler.now;
  root = a.opening.root;
  opening = a.opening.tree;
  budget = a.budget.nodes;
  limit = a.budget.limit;
  settlings = a.blanks.settlings.name;
  endings = a.blanks.endings.name;
}
