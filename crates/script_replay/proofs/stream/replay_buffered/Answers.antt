use Rattle.std.proofs.KnownBytes.{Appends-kept}
use Rattle.script_lines.specs.Ranges.{longest_line}
use Rattle.script_ledgers.{specs.Ranges.longest_script, specs.Script.{start, script_text}}
use Rattle.script_replay.proofs.Flushes.{flush_failed}
use Rattle.script_replay.proofs.stream.replay_buffered.Goals as goal

pub returns-in-Err-clause-run : goal.returns-in-Err-clause-run
returns-in-Err-clause-run g c =
    let replayed = c.replay_unflushed-replayed.ensures in
    let run = replayed.run in (
      run.0,
      run.1,
      run.2,
      Appends-kept _ _ _ run.1 run.3 c.flush-flushed.ensures.bytes,
      flush_failed _ (script_text start) longest_line longest_script run.0 run.1 c.replay_unflushed-replayed.result _ c.and.ensures replayed.end run.4,
    )
