use Rattle.std.{proofs.Common.{◌≡◌, ◌∙◌, ◌-◌, ℕ, ℤ, pos, unsigned_abs, List, option_map, Ok, Err, ap, codes}, proofs.lemmas.Result.err_from_is_err_and}
use Rattle.serde_json.specs.Data.{Data}
use Rattle.ledger_model.{specs.Key.KeyName, specs.Ranges.sequence_end}
use Rattle.marked_json.specs.Reading.{node, text_of}
use Rattle.transaction_event.{specs.Integer.{required_integer, required_integer_of}, specs.Member.{object_of, required, required_of}, specs.Request.{tx_named, key_of}, specs.declared.request_members.RequestMembers.RequestMembers, specs.RequestMembers.{AreFound, request_with}, specs.Steps.{Checked, ◌>>=◌}}
use Rattle.transaction_event.proofs.request_members.RequestMembers.key.Goals as goal

-- the steps that are left, from the last on
abbrev of_tx : ℤ → List ℕ → Checked KeyName
of_tx seq tx = Ok (record { tx = tx; seq = unsigned_abs seq })

abbrev of_text : ℤ → List ℕ → Checked KeyName
of_text seq text = tx_named text >>= of_tx seq

abbrev of_info : ℤ → Data → Checked KeyName
of_info seq info = required text_of (codes "transactionId") info >>= of_text seq

abbrev of_seq : Data → ℤ → Checked KeyName
of_seq request seq = required object_of (codes "transactionInfo") request >>= of_info seq

abbrev seq_of : Data → Checked ℤ
seq_of request = required_integer (pos 0) (pos (sequence_end - 1)) (codes "seqNo") request

step : {A B : Type 0} (next : A → Checked B) {m : Checked A} {x : Checked A} → x ≡ m → x >>= next ≡ m >>= next
step next e = ap (λ m. m >>= next) e

-- what the steps gave so far, and the rest of them, is the key
numbered : (request : Data) (seq : Checked ℤ) → seq ≡ seq_of request → seq >>= of_seq request ≡ key_of request
unfolding key_of
numbered request seq e = step (of_seq request) e

told : (request : Data) (seq : ℤ) (info : Checked Data) → Ok seq ≡ seq_of request → info ≡ required object_of (codes "transactionInfo") request → info >>= of_info seq ≡ key_of request
told request seq info e i = step (of_info seq) i ∙ numbered request (Ok seq) e

named : (request : Data) (seq : ℤ) (info : Data) (text : Checked (List ℕ)) → Ok seq ≡ seq_of request
    → Ok info ≡ required object_of (codes "transactionInfo") request → text ≡ required text_of (codes "transactionId") info
    → text >>= of_text seq ≡ key_of request
named request seq info text e i t = step (of_text seq) t ∙ told request seq (Ok info) e i

-- the members that were found are those of the request
seq_found : (members : RequestMembers) → AreFound members → (seq : Checked ℤ)
    → seq ≡ required_integer_of (pos 0) (pos (sequence_end - 1)) (option_map node members.seq_no)
    → seq ≡ seq_of (request_with members)
seq_found members found seq e = e ∙ ap (required_integer_of (pos 0) (pos (sequence_end - 1))) found.has_number

info_found : (members : RequestMembers) → AreFound members → (info : Checked Data)
    → info ≡ required_of object_of (option_map node members.transaction_info)
    → info ≡ required object_of (codes "transactionInfo") (request_with members)
info_found members found info e = e ∙ ap (required_of object_of) found.has_info

pub returns-in_err-seq-clause-value : goal.returns-in_err-seq-clause-value
returns-in_err-seq-clause-value c =
    let p = err_from_is_err_and c.from_residual.result c.from_residual.ensures.1 in
    rw (p.1, p.2) (numbered (request_with c.args.self.now) (Err c.in_err-seq.field-0.0)
    (seq_found c.args.self.now c.requires (Err c.in_err-seq.field-0.0) (rw c.from.ensures at c.in_err-seq.ensures.value)))

pub returns-in_err-info-clause-value : goal.returns-in_err-info-clause-value
returns-in_err-info-clause-value c =
    let p = err_from_is_err_and c.from_residual-in_err-info.result c.from_residual-in_err-info.ensures.1 in
    rw (p.1, p.2) (told (request_with c.args.self.now) c.in_ok-seq.seq (Err c.in_err-info.field-0.0)
    (seq_found c.args.self.now c.requires (Ok c.in_ok-seq.seq) (rw c.from.ensures at c.in_ok-seq.ensures.value))
    (info_found c.args.self.now c.requires (Err c.in_err-info.field-0.0) c.in_err-info.ensures.value))

pub returns-in_err-required_text-clause-value : goal.returns-in_err-required_text-clause-value
returns-in_err-required_text-clause-value c =
    let p = err_from_is_err_and c.from_residual-in_err-required_text.result c.from_residual-in_err-required_text.ensures.1 in
    rw (p.1, p.2) (named (request_with c.args.self.now) c.in_ok-seq.seq (node c.in_ok-info.info)
    (Err c.in_err-required_text.field-0.0)
    (seq_found c.args.self.now c.requires (Ok c.in_ok-seq.seq) (rw c.from.ensures at c.in_ok-seq.ensures.value))
    (info_found c.args.self.now c.requires (Ok (node c.in_ok-info.info)) c.in_ok-info.ensures.value)
    c.in_err-required_text.ensures.value)

pub returns-in_err-tx-clause-value : goal.returns-in_err-tx-clause-value
returns-in_err-tx-clause-value c =
    let p = err_from_is_err_and c.from_residual-in_err-tx.result c.from_residual-in_err-tx.ensures.1 in
    rw (p.1, p.2) (step (of_tx c.in_ok-seq.seq) c.in_err-tx.ensures.value
    ∙ named (request_with c.args.self.now) c.in_ok-seq.seq (node c.in_ok-info.info) (Ok c.in_ok-required_text.field-0.now)
    (seq_found c.args.self.now c.requires (Ok c.in_ok-seq.seq) (rw c.from.ensures at c.in_ok-seq.ensures.value))
    (info_found c.args.self.now c.requires (Ok (node c.in_ok-info.info)) c.in_ok-info.ensures.value)
    c.in_ok-required_text.ensures.value)
