use Rattle.std.{proofs.Common.{inl, inr, subst, sym}, specs.declared.result.Result.TheVariants.Err}
use Rattle.clap.{specs.Simple.app_of, specs.Values.kind_of}
use Rattle.script_replay.specs.Whole.{IsReported}
use Rattle.script_lines.specs.declared.fault.ReplayFault.TheVariants as replay
use Rattle.ocpp_board.specs.Run.{IsRefusal}
use Rattle.ocpp_board.proofs.run.run.Goals as goal

pub returns-in-Ok-read_arguments : goal.returns-in-Ok-read_arguments
returns-in-Ok-read_arguments g c = record { run = inr (app_of c.in-Ok.program, c.in-Ok.ensures.simple, c.in-Ok.ensures.commands, inl (c.in-Ok-read_arguments.asked, c.in-Ok-read_arguments.ensures.asked, c.run_asked.ensures)) }

pub returns-in-Err : goal.returns-in-Err
returns-in-Err g c =
    let streams = c.args.streams in
    let reports = g.P.Errors.Write.contents in
    let kind = kind_of c.in-Err.error in
    let refused = subst (λ e. IsRefusal g.P.Output.Write.contents reports kind streams.output streams.errors e) (sym c.unserved-in-Err.ensures) c.refuse_words.ensures.refused in
    record {
      run = inr (
        app_of c.in-Ok.program,
        c.in-Ok.ensures.simple,
        c.in-Ok.ensures.commands,
        inr (
          kind,
          refused,
          λ fits. subst (λ e. IsReported reports streams.errors e (Err replay.OutOfMemory)) (sym c.unserved-in-Err.ensures) (c.refuse_words.ensures.memory (c.in-Err.ensures.refused fits)),
        ),
      );
    }
