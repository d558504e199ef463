-- Each line computes to its command.
use Rattle.std.proofs.Common.{refl}
use Rattle.mur_base.specs.Number.{is_digit, digits_behind}
use Rattle.grammar.specs.Nested.{nested_part}
use Rattle.grammar.specs.Part.{exactly, optional, repeat, turns}
use Rattle.imap_command.specs.Authenticate.{is_base64_char}
use Rattle.imap_text.specs.Characters.{is_astring_char, is_atom_char, is_char8, is_tag_byte}
use Rattle.imap_command.specs.Commands.{arguments, uid_arguments}
use Rattle.imap_command.specs.Fetch.{item_of, single_of}
use Rattle.imap_command.specs.Flags.{flag, flag_list_part, some_flags, store_flags_part}
use Rattle.imap_command.specs.Keys.{behind_flat, behind_key, deep_key}
use Rattle.imap_command.specs.List.{is_list_char, list_mailbox}
use Rattle.imap_command.specs.Request.{request_of, first_tag}
use Rattle.imap_command.specs.Spells.{tagged_command}
use Rattle.imap_text.specs.Strings.{astring, crlf_part, literal, string}
use Rattle.imap_command.proofs.laws.each_verb_is_read.Goals as goal

pub returns-clause-capability : goal.returns-clause-capability
unfolding request_of first_tag tagged_command crlf_part is_tag_byte arguments
returns-clause-capability c = refl

pub returns-clause-noop : goal.returns-clause-noop
unfolding request_of first_tag tagged_command crlf_part is_tag_byte arguments
returns-clause-noop c = refl

pub returns-clause-logout : goal.returns-clause-logout
unfolding request_of first_tag tagged_command crlf_part is_tag_byte arguments
returns-clause-logout c = refl

pub returns-clause-login : goal.returns-clause-login
unfolding request_of first_tag tagged_command crlf_part is_tag_byte arguments astring is_astring_char
returns-clause-login c = refl

pub returns-clause-authenticate : goal.returns-clause-authenticate
unfolding request_of first_tag tagged_command crlf_part is_tag_byte arguments is_base64_char
returns-clause-authenticate c = refl

pub returns-clause-enable : goal.returns-clause-enable
unfolding request_of first_tag tagged_command crlf_part is_tag_byte arguments repeat turns is_atom_char is_astring_char
returns-clause-enable c = refl

pub returns-clause-create : goal.returns-clause-create
unfolding request_of first_tag tagged_command crlf_part is_tag_byte arguments astring is_astring_char
returns-clause-create c = refl

pub returns-clause-any_case : goal.returns-clause-any_case
unfolding request_of first_tag tagged_command crlf_part is_tag_byte arguments astring is_astring_char
returns-clause-any_case c = refl

pub returns-clause-delete : goal.returns-clause-delete
unfolding request_of first_tag tagged_command crlf_part is_tag_byte arguments astring is_astring_char
returns-clause-delete c = refl

pub returns-clause-select : goal.returns-clause-select
unfolding request_of first_tag tagged_command crlf_part is_tag_byte arguments astring is_astring_char
returns-clause-select c = refl

pub returns-clause-examine : goal.returns-clause-examine
unfolding request_of first_tag tagged_command crlf_part is_tag_byte arguments astring is_astring_char
returns-clause-examine c = refl

pub returns-clause-status : goal.returns-clause-status
unfolding request_of first_tag tagged_command crlf_part is_tag_byte arguments astring is_astring_char repeat turns
returns-clause-status c = refl

pub returns-clause-append : goal.returns-clause-append
unfolding request_of first_tag tagged_command crlf_part is_tag_byte arguments astring is_astring_char is_digit digits_behind string literal optional
    exactly is_char8
returns-clause-append c = refl

pub returns-clause-append_flags : goal.returns-clause-append_flags
unfolding request_of first_tag tagged_command crlf_part is_tag_byte arguments astring is_astring_char repeat turns is_digit digits_behind string
    literal optional exactly is_char8 flag_list_part some_flags flag
returns-clause-append_flags c = refl

pub returns-clause-idle : goal.returns-clause-idle
unfolding request_of first_tag tagged_command crlf_part is_tag_byte arguments
returns-clause-idle c = refl

pub returns-clause-close : goal.returns-clause-close
unfolding request_of first_tag tagged_command crlf_part is_tag_byte arguments
returns-clause-close c = refl

pub returns-clause-unselect : goal.returns-clause-unselect
unfolding request_of first_tag tagged_command crlf_part is_tag_byte arguments
returns-clause-unselect c = refl

pub returns-clause-expunge : goal.returns-clause-expunge
unfolding request_of first_tag tagged_command crlf_part is_tag_byte arguments
returns-clause-expunge c = refl

pub returns-clause-uid_expunge : goal.returns-clause-uid_expunge
unfolding request_of first_tag tagged_command crlf_part is_tag_byte arguments uid_arguments repeat turns is_digit digits_behind
returns-clause-uid_expunge c = refl

pub returns-clause-search : goal.returns-clause-search
unfolding request_of first_tag tagged_command crlf_part is_tag_byte arguments repeat turns is_digit digits_behind nested_part deep_key behind_key
    behind_flat
returns-clause-search c = refl

pub returns-clause-uid_search : goal.returns-clause-uid_search
unfolding request_of first_tag tagged_command crlf_part is_tag_byte arguments uid_arguments repeat turns is_digit digits_behind nested_part deep_key
    behind_key behind_flat
returns-clause-uid_search c = refl

pub returns-clause-fetch : goal.returns-clause-fetch
unfolding request_of first_tag tagged_command crlf_part is_tag_byte arguments repeat turns is_digit digits_behind single_of item_of
returns-clause-fetch c = refl

pub returns-clause-uid_fetch : goal.returns-clause-uid_fetch
unfolding request_of first_tag tagged_command crlf_part is_tag_byte arguments uid_arguments repeat turns is_digit digits_behind single_of item_of
returns-clause-uid_fetch c = refl

pub returns-clause-store : goal.returns-clause-store
unfolding request_of first_tag tagged_command crlf_part is_tag_byte arguments repeat turns is_digit digits_behind store_flags_part flag_list_part
    some_flags flag
returns-clause-store c = refl

pub returns-clause-uid_store : goal.returns-clause-uid_store
unfolding request_of first_tag tagged_command crlf_part is_tag_byte arguments uid_arguments repeat turns is_digit digits_behind store_flags_part
    flag_list_part some_flags flag
returns-clause-uid_store c = refl

pub returns-clause-copy : goal.returns-clause-copy
unfolding request_of first_tag tagged_command crlf_part is_tag_byte arguments astring is_astring_char repeat turns is_digit digits_behind
returns-clause-copy c = refl

pub returns-clause-uid_copy : goal.returns-clause-uid_copy
unfolding request_of first_tag tagged_command crlf_part is_tag_byte arguments uid_arguments astring is_astring_char repeat turns is_digit
    digits_behind
returns-clause-uid_copy c = refl

pub returns-clause-list : goal.returns-clause-list
unfolding request_of first_tag tagged_command crlf_part is_tag_byte arguments astring is_astring_char list_mailbox is_list_char
returns-clause-list c = refl

pub returns-clause-xfer : goal.returns-clause-xfer
unfolding request_of first_tag tagged_command crlf_part is_tag_byte arguments astring is_astring_char
returns-clause-xfer c = refl

pub returns-clause-left_out : goal.returns-clause-left_out
unfolding request_of first_tag tagged_command crlf_part is_tag_byte arguments
returns-clause-left_out c = refl

pub returns-clause-unknown : goal.returns-clause-unknown
unfolding request_of first_tag tagged_command crlf_part is_tag_byte arguments
returns-clause-unknown c = refl
