use Rattle.test_board.proofs.seeded.plays_with.Given as goal

abbrev pub ghosts-plays : goal.ghosts-plays
ghosts-plays g a = record {
  rule = g.S.Settler.settle_of a.settler.now;
  dims = g.S.Settler.dims a.settler.now;
  depth = g.S.Settler.depth_of a.settler.now;
  root = a.opening.root;
  opening = a.opening.tree;
  budget = 3000;
  limit = 100000;
  settlings = 0;
  endings = 0;
}
