use Rattle.si_subsume.proofs.apart.search_part.Goals as goal

pub search-requires-clause-searchable : goal.search-requires-clause-searchable
search-requires-clause-searchable c = record {
  literals = c.requires.part;
  targets = c.requires.searchable.targets;
  index = c.requires.searchable.index;
}
