-- No reply of a lawful round has a line feed in it, as no JSON text without white space has one.
use Rattle.std.proofs.Common.{ℕ, List, [], ◌∷◌, length, take, drop, Option, Some, None, sym, subst, inl, inr}
use Rattle.std.specs.Prelude.{All, codes}
use Rattle.std.proofs.lemmas.List.Elements.{All-nil, All-cons, All-replicate}
use Rattle.serde_json.specs.Written.{compact_text}
use Rattle.grove_access.specs.declared.access.Access.{Access}
use Rattle.grove_access.specs.declared.reply.Reply.{Reply}
use Rattle.grove_wire.specs.Replies.{error_data, error_text, round_data}
use Rattle.grove_wire.proofs.Feedless.{Feedless, text_feedless}
use Rattle.grove_store.specs.Rounds.{round_texts, batches_in, RefusesRound, AnswersLines}
use Rattle.grove_store.specs.Texts.{RepliesAreFeedless}

round_feedless : (round : ℕ) (counts places : List ℕ) (replies : List (List Reply)) → All Feedless (round_texts round counts places replies)
round_feedless round [] places replies = All-nil Feedless
round_feedless round (count ∷ counts) places replies =
    All-cons Feedless (compact_text (round_data round (take count places) (take count replies))) (round_texts round counts (drop count places) (drop count replies))
    (text_feedless (round_data round (take count places) (take count replies))) (round_feedless round counts (drop count places) (drop count replies))

pub replies_are_feedless : RepliesAreFeedless
replies_are_feedless before after lines replies lawful = by_lines (batches_in before.rows lines) lawful.answered
  where
    refused : (name : List ℕ) (batches : List (List (List Access))) → RefusesRound name before batches replies after → All Feedless replies
    refused name batches (told, same) =
        subst (All Feedless) (sym told) (All-replicate Feedless (length batches) (error_text name) (text_feedless (error_data name)))

    by_lines : (asked : Option (List (List (List Access)))) → AnswersLines before lines asked replies after → All Feedless replies
    by_lines None (line, reply, one, told, (value, says, written)) =
        subst (All Feedless) (sym told) (All-cons Feedless reply [] (subst Feedless (sym written) (text_feedless value)) (All-nil Feedless))
    by_lines (Some batches) (some, few, inl runs) = subst (All Feedless) (sym runs.told) (round_feedless _ _ _ _)
    by_lines (Some batches) (some, few, inr (inl (room, inl foreign))) = refused (codes "foreign") batches foreign
    by_lines (Some batches) (some, few, inr (inl (room, inr unfinished))) = refused (codes "unfinished") batches unfinished
    by_lines (Some batches) (some, few, inr (inr (full, rounds))) = refused (codes "rounds") batches rounds
