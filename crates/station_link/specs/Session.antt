-- How sessions end.
use Rattle.std.specs.Prelude.{ℕ, ⊤, ◌⊎◌}
use Rattle.station_link.{specs.declared.ending.Why.Why, specs.declared.ending.Why.TheVariants.{PeerClosed, ReadFault, WriteFault, HandshakeFailed, UnknownStation, NotOcpp, BinaryMessage, OutOfMemory, MessagesSpent, TooManyPasses, Replaced, ServerCloses}}

-- How many messages a session takes (this product's profile).
abbrev pub most_messages : ℕ
most_messages = 1_000_000

-- A session that got no pass can end so.
abbrev pub MayLackPass : Why → Type 0
MayLackPass PeerClosed = ⊥
MayLackPass ReadFault = ⊥
MayLackPass WriteFault = ⊥
MayLackPass HandshakeFailed = ⊤
MayLackPass UnknownStation = ⊤
MayLackPass NotOcpp = ⊤
MayLackPass BinaryMessage = ⊥
MayLackPass OutOfMemory = ⊤
MayLackPass MessagesSpent = ⊥
MayLackPass TooManyPasses = ⊤
MayLackPass Replaced = ⊥
MayLackPass ServerCloses = ⊥

-- A session that got a pass can end so by itself.
abbrev pub MayHavePass : Why → Type 0
MayHavePass PeerClosed = ⊤
MayHavePass ReadFault = ⊤
MayHavePass WriteFault = ⊤
MayHavePass HandshakeFailed = ⊥
MayHavePass UnknownStation = ⊥
MayHavePass NotOcpp = ⊥
MayHavePass BinaryMessage = ⊤
MayHavePass OutOfMemory = ⊤
MayHavePass MessagesSpent = ⊤
MayHavePass TooManyPasses = ⊥
MayHavePass Replaced = ⊥
MayHavePass ServerCloses = ⊥

-- A live server ends a session so.
abbrev pub IsDismissal : Why → Type 0
IsDismissal PeerClosed = ⊥
IsDismissal ReadFault = ⊥
IsDismissal WriteFault = ⊥
IsDismissal HandshakeFailed = ⊥
IsDismissal UnknownStation = ⊥
IsDismissal NotOcpp = ⊥
IsDismissal BinaryMessage = ⊥
IsDismissal OutOfMemory = ⊥
IsDismissal MessagesSpent = ⊥
IsDismissal TooManyPasses = ⊥
IsDismissal Replaced = ⊤
IsDismissal ServerCloses = ⊤

-- A session that got a pass can end so: by itself, or for a reason of its attendant.
abbrev pub MayEnd : (Why → Type 0) → Why → Type 0
MayEnd dismisses why = MayHavePass why ⊎ dismisses why
