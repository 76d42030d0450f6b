-- What a session reads from its socket and sends to it (RFC 6455).
use Rattle.std.specs.Prelude.{◌≡◌, ◌⊎◌, ℕ, ⊤, Bool, false, List, [], ◌∷◌, Option, None, Some, Result, Ok, Err}
use Rattle.tungstenite.{specs.declared.error.Error.Error, specs.declared.message.Message.Message, specs.Socket.{Flushed, Reads, Socket, Writes, content_of, has_kind}}
use Rattle.websocket.{specs.Connection.write_step, specs.Content.text}

-- What a read gave is no text.
abbrev pub IsNoText : Result Message Error → Type 0
IsNoText (Ok message) = has_kind 0 message ≡ false
IsNoText (Err _) = ⊤

-- A socket was flushed, or it was read and gave no text.
abbrev pub IsQuiet : {S : Type 0} → (S → Option (List ℕ)) → (S → Option (List ℕ)) → Socket S → Socket S → Type 0
IsQuiet remaining contents s s' = Flushed contents s s' ⊎ ((r : Result Message Error) × IsNoText r × Reads remaining s s' r)

-- From one of these sockets to the next it was flushed, or read and gave no text.
abbrev pub AreQuiet : {S : Type 0} → (S → Option (List ℕ)) → (S → Option (List ℕ)) → Socket S → List (Socket S) → Socket S → Type 0
AreQuiet remaining contents s [] s' = s' ≡ s
AreQuiet remaining contents s (t ∷ ts) s' = IsQuiet remaining contents s t × AreQuiet remaining contents t ts s'

-- A session waited: the socket was flushed and read, some times, and gave no text.
abbrev pub Waits : {S : Type 0} → (S → Option (List ℕ)) → (S → Option (List ℕ)) → Socket S → Socket S → Type 0
Waits {S} remaining contents s s' = (between : List (Socket S)) × AreQuiet remaining contents s between s'

-- A message was read behind some waiting.
pub record Comes {S : Type 0} (remaining contents : S → Option (List ℕ)) (s : Socket S) (message : Message) (s' : Socket S) : Type 0 where
  pub ready : Socket S
  pub waited : Waits remaining contents s ready
  pub read : Reads remaining ready s' (Ok message)

-- A text of these words was read behind some waiting.
pub record Receives {S : Type 0} (remaining contents : S → Option (List ℕ)) (s : Socket S) (words : List ℕ) (s' : Socket S) : Type 0 where
  pub message : Message
  pub is : content_of message ≡ text words
  pub comes : Comes remaining contents s message s'

-- The reply was written as one text, and all of it was handed to the stream; without a reply nothing was written.
abbrev pub Sends : {S : Type 0} → (S → Option (List ℕ)) → Socket S → Option (List ℕ) → Socket S → Type 0
Sends contents s None s' = s' ≡ s
Sends contents s (Some reply) s' = Writes contents s s' (write_step s.conn (text reply)) × (s'.output ≡ [])
