use Rattle.test_board.proofs.tickets.works_with.Given as goal

abbrev pub ghosts-works : goal.ghosts-works
ghosts-works g a = record {
  rule = g.S.Settler.settle_of a.settler.now;
  dims = g.S.Settler.dims a.settler.now;
  depth = g.S.Settler.depth_of a.settler.now;
  root = a.opening.root;
  opening = a.opening.tree;
  budget = 5;
  limit = 100000;
  settlings = 0;
  endings = 0;
}
