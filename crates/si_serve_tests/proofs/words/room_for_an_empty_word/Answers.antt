use Rattle.si_serve_tests.proofs.EmptyWord.{room_for_nine}
use Rattle.si_serve_tests.proofs.words.room_for_an_empty_word.Goals as goal

pub returns : goal.returns
returns c = room_for_nine
