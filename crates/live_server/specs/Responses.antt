-- The bytes of answers to browsers (RFC 9110, RFC 9112).
use Rattle.std.{specs.Prelude.{ℕ, List, [], ◌∷◌, ◌++◌, codes, length}, specs.Fmt.decimal}
use Rattle.live_server.{specs.declared.reply.Status.Status, specs.declared.reply.Status.TheVariants.{Found, Malformed, NotFound, NotAllowed, NoMemory}}

-- The status of an answer, and its reason.
abbrev pub status_text : Status → List ℕ
status_text Found = codes "200 OK"
status_text Malformed = codes "400 Bad Request"
status_text NotFound = codes "404 Not Found"
status_text NotAllowed = codes "405 Method Not Allowed"
status_text NoMemory = codes "503 Service Unavailable"

-- A line of a head with this text.
abbrev pub head_line : List ℕ → List ℕ
head_line text = text ++ 13 ∷ 10 ∷ []

-- The bytes of an answer with this status, content type and body; the connection ends behind it.
abbrev pub response_bytes : Status → List ℕ → List ℕ → List ℕ
response_bytes status kind body =
    head_line (codes "HTTP/1.1 " ++ status_text status)
    ++ head_line (codes "Content-Type: " ++ kind)
    ++ head_line (codes "Content-Length: " ++ decimal (length body))
    ++ head_line (codes "Connection: close")
    ++ head_line []
    ++ body

-- The content type of a board, and of a status.
abbrev pub plain : List ℕ
plain = codes "text/plain; charset=utf-8"

-- The content type of a page.
abbrev pub html : List ℕ
html = codes "text/html; charset=utf-8"

-- The bytes of an answer with only its status.
abbrev pub status_bytes : Status → List ℕ
status_bytes status = response_bytes status plain (status_text status)
