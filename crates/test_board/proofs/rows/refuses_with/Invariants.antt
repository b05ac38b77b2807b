use Rattle.test_board.proofs.rows.refuses_with.Given as goal

abbrev pub ghosts-refuses : goal.ghosts-refuses
ghosts-refuses g a = record {
  rule = g.S.Settler.settle_of a.settler.now;
  dims = g.S.Settler.dims a.settler.now;
  depth = g.S.Settler.depth_of a.settler.now;
  root = a.opening.root;
  opening = a.opening.tree;
  budget = a.budget;
  limit = a.limit;
  settlings = 0;
  endings = 0;
}
