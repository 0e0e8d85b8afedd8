-- From the text to the bank, and back to the sender. A hex text for the target bank that is accepted, and whose image is fit, is sent as the
-- sender's packets; then the bank holds each data byte of the text at its address, and 0xFF elsewhere. And whatever a board answers, the sender's
-- reader reads, never number 6, and loses nothing of it: what it read, written out again, is the answer.
-- Assumes nothing.
use Rattle.std.specs.Prelude.{◌≡◌, true, List, ◌∷◌, ℕ, ◌*◌, ◌^◌, ◌<◌, length, Ok}
use Rattle.buffer.specs.Number.{byte_at}
use Rattle.layout.specs.declared.Bank.{Bank}
use Rattle.layout.specs.Layout.{sector_size, other_of, start_of}
use Rattle.layout.specs.Pair.{bank_in}
use Rattle.lines.specs.Line.{lines}
use Rattle.hex_text.specs.Meaning.{Leaves}
use Rattle.hex_text.specs.Read.{text_read}
use Rattle.response.specs.Response.{response_of}
use Rattle.client.specs.Perform.{fit_of}
use Rattle.calls.specs.Call.{Board}
use Rattle.demands.specs.Board.{LentCall, Input, Datagram, said, Machine, after}
use Rattle.demands.specs.Demand2.{Ready, Delivery}
use Rattle.demands.specs.Responses.{ReadBack}

-- ---- the text's bytes at their addresses

abbrev pub MeetsText : Machine → Type 0
MeetsText m =
    (b : Board) (text before : List ℕ) → Ready b
    → (let target : Bank = other_of b.client.fixed.running in
    let n : ℕ = b.client.fixed.n in
    let image : List ℕ = (text_read text target n before).image in
    (text_read text target n before).answer ≡ Ok tt → fit_of b.client.fixed image ≡ true
    → (start : LentCall) (ps : List ℕ) (is : List Input) (end : LentCall) → Delivery b.client.opener b image start ps is end
    → (let last : Board = (m (after m b (Datagram start ∷ is)) (Datagram end)).board in
    Leaves (start_of target) (sector_size * n) (lines text) (length (lines text)) (bank_in target last.pair)))

-- ---- answers, read

abbrev pub Readable : List ℕ → Type 0
Readable answer = ReadBack answer (response_of answer)

-- what the machine's types say: a datagram's bytes are bytes, the record's revision has 32 bits
abbrev pub MeetsRead : Machine → Type 0
MeetsRead m =
    (b : Board) (call : LentCall) → ((i : ℕ) → byte_at call.datagram i < 256) → b.client.fixed.revision < 2 ^ 32
    → (m b (Datagram call)).number ≡ 0 → Readable (said (m b (Datagram call)))
