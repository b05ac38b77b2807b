use Rattle.test_board.proofs.rows.opens_two_with.Given as goal

abbrev pub ghosts-opens_two : goal.ghosts-opens_two
ghosts-opens_two g a = record {
  rule = g.S.Settler.settle_of a.settler.now;
  dims = g.S.Settler.dims a.settler.now;
  depth = g.S.Settler.depth_of a.settler.now;
  root = a.opening.root;
  opening = a.opening.tree;
  budget = 5;
  limit = 100000;
  settlings = 0;
  endings = 0;
}
