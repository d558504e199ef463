-- What the bytes of a reply are computed with: each proof unfolds all of it.
use Rattle.std.specs.Char.{encode_utf8}
use Rattle.std.specs.Fmt.{digits}
use Rattle.std.specs.Str.{chars, is_utf8}
use Rattle.base64.specs.Decode.{groups_error, groups_bytes, scan_steps}
use Rattle.imap_talk.specs.FaultBye.{bye_of}
use Rattle.imap_talk.specs.Inputs.{continuation_of, command_by, request_at, line_at, whole_given, too_big_at, input_at, inputs_of, before_next, requests_in}
use Rattle.imap_talk.specs.Transcript.{is_bye, ends, unless_ended, stop_told, told_till, all_told_till}
use Rattle.imap_command.specs.Append.{dated_text, flagged_text}
use Rattle.imap_command.specs.Authenticate.{is_base64_char}
use Rattle.imap_command.specs.Commands.{printed_as, words_text, uid_arguments, arguments}
use Rattle.imap_command.specs.Dates.{name_in, year_text}
use Rattle.imap_command.specs.Fetch.{item_name_text, name_of, behind_name, item_of, single_name_of, behind_single, single_of}
use Rattle.imap_command.specs.Flags.{flag, some_flags, flag_list_part, store_flags_part}
use Rattle.imap_command.specs.Keys.{key_text, flat_name_text, behind_flat, flat_key, behind_key, deep_key, separator}
use Rattle.imap_command.specs.List.{is_list_char, list_mailbox}
use Rattle.imap_command.specs.Request.{first_tag, request_of, too_big_request}
use Rattle.imap_command.specs.Spells.{command_text, tagged_command}
use Rattle.imap_command.specs.Store.{mode_text}
use Rattle.imap_command.specs.Verbs.{name_text, is_uid_verb}
use Rattle.text_parts.specs.Dates.{is_date_so_far}
use Rattle.imap_text.specs.Characters.{is_astring_char, is_atom_char, is_tag_byte, is_text_char, is_char8, is_utf8_tail}
use Rattle.imap_text.specs.FlagNames.{system_text}
use Rattle.imap_text.specs.StatusItems.{item_text}
use Rattle.imap_text.specs.Strings.{crlf_part, quoted_char, quoted, literal, string, astring, escaped, escaped_text, quoted_text, is_astring_atom, is_atom, is_quotable, astring_text}
use Rattle.imap_text.specs.Tags.{tag_text}
use Rattle.imap_text.specs.Utf8.{led, utf8_2, utf8_3, utf8_4, utf8_char}
use Rattle.imap_reply.specs.ByeLine.{bye_text, bye_line}
use Rattle.imap_reply.specs.Capability.{capability_line}
use Rattle.imap_reply.specs.Codes.{code_text}
use Rattle.imap_reply.specs.Continuation.{ready, challenge, idling, continuation_line}
use Rattle.imap_reply.specs.Enabled.{enabled_line}
use Rattle.imap_reply.specs.ExistsLine.{exists_line}
use Rattle.imap_reply.specs.ExpungeLine.{expunge_line}
use Rattle.imap_reply.specs.FetchLine.{fetch_line}
use Rattle.imap_reply.specs.FlagsLine.{flag_names_text, flags_line}
use Rattle.imap_reply.specs.Greeting.{greeting}
use Rattle.imap_reply.specs.ListLine.{attribute_text, list_line}
use Rattle.imap_reply.specs.Mailbox.{is_bare, is_nil, mailbox_text}
use Rattle.imap_reply.specs.OkLines.{closed_line, permanent_texts, permanent_line, uid_next_line, uid_validity_line}
use Rattle.imap_reply.specs.ReplyText.{line_text, lines_text, reply_text}
use Rattle.imap_reply.specs.SearchLine.{uid_word, all_text, search_line}
use Rattle.imap_reply.specs.Sets.{before_runs, runs_of, number_run_text, more_runs_text, runs_text, set_text}
use Rattle.imap_reply.specs.Spaced.{more_spaced, spaced_text}
use Rattle.imap_reply.specs.StatusLine.{count_text, more_counts_text, counts_text, status_line}
use Rattle.imap_reply.specs.TaggedLine.{no_text, bad_text, ok_text, under, tagged_line}
use Rattle.mur_model.specs.Act.{need_taken, need_off, need_begun, need_in, need_selected, need_of, work_on, act_by, act_of}
use Rattle.mur_model.specs.Answer.{answer_of}
use Rattle.mur_model.specs.Append.{append_by, append_as, append, append_reply, append_to, append_on}
use Rattle.mur_model.specs.AtOnce.{is_done}
use Rattle.mur_model.specs.Create.{without_separator, is_inbox, create_by, create_as, create_meant, create, make, create_on}
use Rattle.mur_model.specs.Delete.{delete_by, delete_as, delete, delete_on}
use Rattle.mur_model.specs.Left.{box_after, store_after}
use Rattle.mur_model.specs.Listing.{tells, shown_to, list_reply, list}
use Rattle.mur_model.specs.Login.{login_by, login_as, login}
use Rattle.mur_model.specs.NamedRows.{named_uids}
use Rattle.mur_model.specs.News.{is_among, news}
use Rattle.mur_model.specs.Noop.{news_name}
use Rattle.mur_model.specs.Plain.{decoded, cut_at, cut_at_nul, authenticate_by, authenticate_as, authenticate_with, authenticate}
use Rattle.mur_model.specs.Rights.{user_named, is_admin_user, has_rights, may_create}
use Rattle.mail_message.specs.SameFlags.{is_same_flags}
use Rattle.mur_model.specs.Select.{select_by, select_as, select, select_on}
use Rattle.mur_model.specs.Status.{status_by, status_as, status, amount, status_reply, status_on}
use Rattle.mur_model.specs.Store.{is_full}
use Rattle.mur_model.specs.Traits.{is_in, may_be, traits_of}
use Rattle.mur_model.specs.Viewing.{work_there, viewed_on}
use Rattle.mur_model.specs.Waits.{with_line, waits_begun, wait_of, begins_session, begins_by, begins, begun_behind}
use Rattle.mail_message.specs.Date.{is_below, is_day, is_month, is_calendar, is_clock, is_zone, is_date, date_of}
use Rattle.mail_message.specs.Days.{two_digits, four_digits, month_number, calendar_day, day_of}
use Rattle.mail_message.specs.FirstAcl.{first_level, owner_acl, first_acl}
use Rattle.mail_message.specs.FlagNames.{system_flag_of}
use Rattle.mail_message.specs.Keywords.{is_atom_byte, has_atom_bytes, keyword_fault}
use Rattle.mail_message.specs.Literals.{server_literal}
use Rattle.mur_base.specs.Inbox.{own_name, is_level_end, behind, owns, is_own, behind_inbox, shown_name, taken_name}
use Rattle.mur_base.specs.Names.{is_short_name_byte, has_short_name_bytes, short_name_fault, is_mail_name_byte, has_mail_name_bytes, with_first, levels_of, is_empty_level, has_empty_level, mail_name_fault}
use Rattle.mur_base.specs.Patterns.{is_wildcard, covers, behind_some, behind_one, behind_byte, matches}
use Rattle.name_listing.specs.Found.{with_mailbox, with_level, with_levels, levels_from, found_lines}
use Rattle.name_listing.specs.Listing.{asks_separator, pattern_of, ends_in_percent}
use Rattle.mur_base.specs.Number.{is_digit, digits_behind, is_numeral, number_of, with_digit}
use Rattle.mur_base.specs.Users.{is_user_named, user_names_differ, is_no_nul, is_password, has_password, users_fault}
use Rattle.grammar.specs.Nested.{nested_part}
use Rattle.grammar.specs.Numbers.{digits_within, decimal_text}
use Rattle.grammar.specs.Part.{exactly, turns, repeat, optional}
use Rattle.grammar.specs.Quoted.{is_quoted_plain, is_quoted_special, literal_text}
use Rattle.reply_law.specs.Scenes.{connected, as_bob, as_amy, as_admin, selected, examined, selected_empty, both_selected, both_selected_two, changed_behind, replaced, as_bob_with, as_admin_at}

unfoldable pub computes : Unit {0}
unfolding is_date_so_far encode_utf8 digits chars is_utf8 groups_error groups_bytes scan_steps bye_of continuation_of command_by request_at line_at whole_given too_big_at input_at inputs_of before_next requests_in is_bye ends unless_ended stop_told told_till all_told_till dated_text flagged_text is_base64_char printed_as words_text uid_arguments arguments name_in year_text item_name_text name_of behind_name item_of single_name_of behind_single single_of flag some_flags flag_list_part store_flags_part key_text flat_name_text behind_flat flat_key behind_key deep_key separator is_list_char list_mailbox first_tag request_of too_big_request command_text tagged_command mode_text name_text is_uid_verb is_astring_char is_atom_char is_tag_byte is_text_char is_char8 is_utf8_tail system_text item_text crlf_part quoted_char quoted literal string astring escaped escaped_text quoted_text is_astring_atom is_atom is_quotable astring_text tag_text led utf8_2 utf8_3 utf8_4 utf8_char bye_text bye_line capability_line code_text ready challenge idling continuation_line enabled_line exists_line expunge_line fetch_line flag_names_text flags_line greeting attribute_text list_line is_nil is_bare mailbox_text closed_line permanent_texts permanent_line uid_next_line uid_validity_line line_text lines_text reply_text uid_word all_text search_line before_runs runs_of number_run_text more_runs_text runs_text set_text more_spaced spaced_text count_text more_counts_text counts_text status_line no_text bad_text ok_text under tagged_line is_in may_be traits_of need_taken need_off need_begun need_in need_selected need_of work_on act_by act_of answer_of append_by append_as append append_reply append_to append_on is_done without_separator is_inbox create_by create_as create_meant create make create_on delete_by delete_as delete delete_on box_after store_after tells shown_to list_reply list is_wildcard covers behind_some behind_one behind_byte matches with_mailbox with_level with_levels levels_from found_lines asks_separator pattern_of ends_in_percent login_by login_as login named_uids is_among news news_name decoded cut_at cut_at_nul authenticate_by authenticate_as authenticate_with authenticate user_named is_admin_user has_rights may_create is_same_flags select_by select_as select select_on status_by status_as status amount status_reply status_on is_full work_there viewed_on with_line waits_begun wait_of begins_session begins_by begins begun_behind is_below is_day is_month is_calendar is_clock is_zone is_date date_of two_digits four_digits month_number calendar_day day_of first_level owner_acl first_acl system_flag_of is_atom_byte has_atom_bytes keyword_fault server_literal own_name is_level_end behind owns is_own behind_inbox shown_name taken_name is_short_name_byte has_short_name_bytes short_name_fault is_mail_name_byte has_mail_name_bytes with_first levels_of is_empty_level has_empty_level mail_name_fault is_digit digits_behind is_numeral number_of with_digit is_user_named user_names_differ is_no_nul is_password has_password users_fault nested_part digits_within decimal_text exactly turns repeat optional is_quoted_plain is_quoted_special literal_text connected as_bob as_amy as_admin selected examined selected_empty both_selected both_selected_two changed_behind replaced as_bob_with as_admin_at
computes = tt
