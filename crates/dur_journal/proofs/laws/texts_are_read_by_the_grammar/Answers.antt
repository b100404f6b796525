use Rattle.dur_journal.proofs.TextReadings.{view_spelt, view_back, view_breaks_back, view_broken, entries_spelt, entries_back, entries_breaks_back, entries_broken}
use Rattle.dur_journal.proofs.laws.texts_are_read_by_the_grammar.Goals as goal

pub returns-clause-base : goal.returns-clause-base
returns-clause-base c version x v = (view_back version x v, view_spelt version x v)

pub returns-clause-base_breaks : goal.returns-clause-base_breaks
returns-clause-base_breaks c version x b breaks = view_broken version x b breaks

pub returns-clause-body : goal.returns-clause-body
returns-clause-body c version h x es = (entries_back version h x es, entries_spelt version h x es)

pub returns-clause-body_breaks : goal.returns-clause-body_breaks
returns-clause-body_breaks c version h x b breaks = entries_broken version h x b breaks
