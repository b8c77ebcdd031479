use Rattle.std.specs.String.{string_bytes}
use Rattle.lrcommand.proofs.AskingArguments.{asks_alone, asks_print, asks_answer}
use Rattle.lrcommand.proofs.requests.requested.Goals as goal
use Rattle.lrcommand.proofs.requests.requested.Goals.{in-empty, in-len2+in_ok-listing_named-in-len2, in-len3+in_ok-reply_named-in-len3+in_ok-steps_written-in-len3}

pub returns-clause-some : goal.returns-clause-some
returns-clause-some c =
    let xs = c.args.args.now in
    elim c.if-args-lt1.branch [
      | in-empty w ↦ rw w.command-is (asks_alone string_bytes xs w.in-empty.len_below)
      | in-len2+in_ok-listing_named-in-len2 w ↦
          let named = w.in_ok-listing_named-in-len2 in
          rw w.command-is (asks_print string_bytes xs w.word-item.result w.file-item.result named.field-0 w.as_str.result.now w.as_str-in-len2.result.now
          w.in-len2.len_at_least w.in-len2.len_below w.word-item.is w.file-item.is named.ensures w.as_str.ensures.value w.as_str-in-len2.ensures.value)
      | in-len3+in_ok-reply_named-in-len3+in_ok-steps_written-in-len3 w ↦
          let named = w.in_ok-reply_named-in-len3 in
          let written = w.in_ok-steps_written-in-len3 in
          rw w.command-is (asks_answer string_bytes xs w.word-item-then-args-lt4.result w.file-item-then-args-lt4.result w.digits-item.result named.field-0
          w.as_str-in-len3.result.now w.as_str-in-len3-3.result.now w.as_str-in-len3-2.result.now written.field-0 w.in-len3.len_at_least w.in-len3.len_below
          w.word-item-then-args-lt4.is w.file-item-then-args-lt4.is w.digits-item.is named.ensures w.as_str-in-len3.ensures.value
          w.as_str-in-len3-3.ensures.value w.as_str-in-len3-2.ensures.value written.ensures)
    ]
