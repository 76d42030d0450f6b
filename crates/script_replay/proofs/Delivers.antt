-- `deliver` in place of `msg`, and `asks`.
use Rattle.std.{proofs.Common.{◌≡◌, ℕ, List, [], ◌∷◌, ◌++◌, Option, None, Some, refl, sym, ap, ◌∙◌, append_assoc}, specs.Prelude.codes}
use Rattle.ledger_model.{specs.declared.command.Command.TheVariants.Deliver, specs.Step.answer, specs.World.Station}
use Rattle.script_lines.{specs.Lines.Line, specs.LineMeaning.{LineMeaning, nothing, fails, sets_limits, declares, sets_period, sets_order, sets_settle, tells, sends, delivers, commands, asks_energy, asks_export, asks_total, asks_board, lists, asks_meaning, marks, line_meaning}, specs.Texts.answer_text}
use Rattle.script_ledgers.{specs.Script.{Script, by_meaning, delivered_to, line_step, script_after, sent_to, start, station_named, step_by, told_by}, proofs.Told.delivered_state}
use Rattle.script_replay.specs.DeliverLaws.{AsksIsTheMeaning, DeliverIsMsg, DeliversMakeTheSameState, SayTheSame, before_reply, before_sent, delivering}
use Rattle.transaction_event.{specs.Message.{Meaning, Event, Ready, Silence, message}, specs.Reply.event_reply_bytes}

told_text : (meaning : Meaning) (station : Station) (s : Script) → (told_by meaning station s).1 ≡ before_reply meaning station ++ (by_meaning meaning station s).1
told_text (Event id request) station s =
    let answered = answer station.limits station.content (Deliver request.key request.event) in
    let reply = event_reply_bytes id request.token answered in
    append_assoc (answer_text answered) (32 ∷ reply) (10 ∷ []) ∙ sym (append_assoc (answer_text answered) (32 ∷ []) (reply ++ 10 ∷ []))
told_text (Ready reply) station s = append_assoc (codes "reply ") reply (10 ∷ [])
told_text Silence station s = refl

delivered_text : (station : Option Station) (s : Script) (text : List ℕ) → (delivered_to station s text).1 ≡ before_sent station s.moment text ++ (sent_to station s text).1
delivered_text None s text = refl
delivered_text (Some station) s text = told_text (message text s.moment) station s

pub deliver_is_msg : DeliverIsMsg
deliver_is_msg s one other name text sent delivered =
    let station = station_named name s.world in (
      ap (λ m. (step_by s m).0) delivered ∙ delivered_state station s text ∙ sym (ap (λ m. (step_by s m).0) sent),
      ap (λ m. (step_by s m).1) delivered ∙ delivered_text station s text ∙ sym (ap (λ m. before_sent station s.moment text ++ (step_by s m).1) sent),
    )

delivering_state : (s : Script) (m : LineMeaning) → (step_by s (delivering m)).0 ≡ (step_by s m).0
delivering_state s nothing = refl
delivering_state s (fails _) = refl
delivering_state s (sets_limits _ _ _ _) = refl
delivering_state s (declares _ _) = refl
delivering_state s (sets_period _ _) = refl
delivering_state s (sets_order _ _) = refl
delivering_state s (sets_settle _ _) = refl
delivering_state s (tells _) = refl
delivering_state s (sends name text) = delivered_state (station_named name s.world) s text
delivering_state s (delivers _ _) = refl
delivering_state s (commands _ _) = refl
delivering_state s (asks_energy _) = refl
delivering_state s (asks_export _) = refl
delivering_state s (asks_total _) = refl
delivering_state s (asks_board _) = refl
delivering_state s (lists _ _ _) = refl
delivering_state s (asks_meaning _) = refl
delivering_state s (marks _) = refl

first_same : (a b : LineMeaning) (xs ys : List LineMeaning) → a ∷ xs ≡ b ∷ ys → a ≡ b
first_same a b xs ys e = cc e

others_same : (a b : LineMeaning) (xs ys : List LineMeaning) → a ∷ xs ≡ b ∷ ys → xs ≡ ys
others_same a b xs ys e = cc e

none_some : {P : Type 0} (b : LineMeaning) (bs : List LineMeaning) → [] ≡ b ∷ bs → P
none_some b bs e = cc e

same_state : (s : Script) (one other : List Line) → SayTheSame one other → script_after s one ≡ script_after s other
same_state s [] [] same = refl
same_state s [] (line ∷ lines) same = none_some _ _ same
same_state s (line ∷ lines) [] same = none_some _ _ (sym same)
same_state s (line ∷ one) (other ∷ others) same =
    let m = line_meaning line in
    let n = line_meaning other in
    let first : (line_step s line).0 ≡ (line_step s other).0 =
    sym (delivering_state s m) ∙ ap (λ x. (step_by s x).0) (first_same (delivering m) (delivering n) _ _ same) ∙ delivering_state s n in
    ap (λ t. script_after t one) first ∙ same_state (line_step s other).0 one others (others_same (delivering m) (delivering n) _ _ same)

pub delivers_make_the_same_state : DeliversMakeTheSameState
delivers_make_the_same_state one other same = let state = same_state start one other same in (state, λ line. ap (λ s. line_step s line) state)

pub asks_is_the_meaning : AsksIsTheMeaning
asks_is_the_meaning s line text says = ap (step_by s) says
