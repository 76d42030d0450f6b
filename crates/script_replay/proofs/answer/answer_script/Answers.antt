use Rattle.site_book.proofs.Named.{named-made}
use Rattle.script_replay.proofs.answer.answer_script.Goals as goal

pub replay_lines-requires-clause-named : goal.replay_lines-requires-clause-named
replay_lines-requires-clause-named g c = named-made _
