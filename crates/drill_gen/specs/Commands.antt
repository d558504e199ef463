-- The commands of a drill's clients (RFC 9051).
use Rattle.std.specs.Prelude.{ℕ, zero, suc, ◌+◌, ◌==◌, nat_lt, if◌then◌else◌, List, [], ◌++◌, codes, decimal}
use Rattle.drill_gen.specs.Values.{kind_of, size_of, uid_of}

unfoldable pub letters : ℕ → List ℕ
letters zero = []
letters (suc before) = letters before ++ codes "x"

-- a message of so many letters, as a literal that asks for no continuation
unfoldable pub append_text : ℕ → List ℕ
append_text size = codes "t APPEND INBOX {" ++ (decimal size ++ (codes "+}\r\n" ++ (letters size ++ codes "\r\n")))

unfoldable pub delete_text : ℕ → List ℕ
delete_text uid = codes "t UID STORE " ++ (decimal uid ++ codes " +FLAGS.SILENT (\\Deleted)\r\n")

-- the command of a turn: of sixteen kinds six are an APPEND, three a FETCH, two a STORE, and each other is one
unfoldable pub command_of_kind : ℕ → ℕ → List ℕ
command_of_kind kind value =
    if nat_lt kind 6 then append_text (size_of value)
    else if nat_lt kind 9 then codes "t UID FETCH 1:* (FLAGS)\r\n"
    else if nat_lt kind 11 then codes "t UID STORE 1:* +FLAGS (\\Flagged)\r\n"
    else if kind == 11 then delete_text (uid_of value)
    else if kind == 12 then codes "t EXPUNGE\r\n"
    else if kind == 13 then codes "t NOOP\r\n"
    else if kind == 14 then codes "t LIST \"\" \"*\"\r\n"
    else codes "t UID SEARCH FLAGGED\r\n"

unfoldable pub command_text : ℕ → List ℕ
command_text value = command_of_kind (kind_of value) value

unfoldable pub create_text : ℕ → List ℕ
create_text user = codes "a CREATE user.u" ++ (decimal user ++ codes "\r\n")

-- the administrator makes a mailbox for each of the first users
unfoldable pub creates : ℕ → List ℕ
creates zero = []
creates (suc before) = creates before ++ create_text (before + 1)

-- the administrator logs in and makes eight mailboxes
unfoldable pub making_text : List ℕ
making_text = codes "a LOGIN adm x\r\n" ++ creates 8

-- a user logs in and selects the mailbox
unfoldable pub selecting_text : ℕ → List ℕ
selecting_text user = codes "s LOGIN u" ++ (decimal user ++ codes " p\r\ns SELECT INBOX\r\n")

-- the administrator moves a user's mailbox to a backend
unfoldable pub moving_text : ℕ → ℕ → List ℕ
moving_text user backend = codes "x LOGIN adm x\r\nx XFER user.u" ++ (decimal user ++ (codes " b" ++ (decimal backend ++ codes "\r\n")))
