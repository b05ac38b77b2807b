use Rattle.test_board.proofs.tickets.shared_with.Given as goal

abbrev pub ghosts-opens_shared : goal.ghosts-opens_shared
ghosts-opens_shared g a = record {
  rule = g.S.Settler.settle_of a.settler.now;
  dims = g.S.Settler.dims a.settler.now;
  depth = g.S.Settler.depth_of a.settler.now;
  root = a.opening.root;
  opening = a.opening.tree;
  budget = 5;
  limit = 100000;
  settlings = a.settlings.name;
  endings = a.endings.name;
}
