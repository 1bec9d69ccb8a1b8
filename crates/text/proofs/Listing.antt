-- The rules paper's listing: the command that each of its lines gives, and how each of its answers is written; and lines
-- of other forms. Assumes nothing.
use mathlib.Core.Path.{◌≡◌, refl}
use mathlib.Core.List.{List, [], ◌∷◌, map}
use Prim.Native.String.{String}
use Rattle.text.specs.Words.{ascii, onto, words, same, is_digit, decimals, unpadded, value_from, numeral, only, argument}
use Rattle.text.specs.Line.{padded, given, with_word, with_nothing, joined, numbers, reading, changing, removing, created, voting, creating, suite_asked, command_in, ballots_in, given_with, longest_line, given_of, command_of, ballots_of}
use Rattle.text.specs.Answer.{digit, decimal_on, decimal, high_end, end_of, saying, text_of}
use Rattle.text.specs.declared.Members.TheVariants.{Everyone, Only}
use Rattle.text.specs.declared.Command.TheVariants as command
use Rattle.text.specs.declared.Command.{Command}
use Rattle.text.specs.declared.Creation.{Creation}
use Rattle.std.specs.Prelude.{None, Some}
use Rattle.text.specs.declared.Reply.{Reply}
use Rattle.text.specs.declared.Reply.TheVariants.{SuiteOk, Ok, Removed, At, Absent, Near, Refused}

abbrev lines : List (String × Command)
lines =
    ("suite 2 2 1 1 1", command.Suite 2 2)
    ∷ ("ins 3 3 20 7", command.Insert (Only 3) (Only 3) 20 7)
    ∷ ("look 6 20", command.Look (Only 6) 20)
    ∷ ("ins 6 6 10 3", command.Insert (Only 6) (Only 6) 10 3)
    ∷ ("ins 5 5 30 9", command.Insert (Only 5) (Only 5) 30 9)
    ∷ ("del 5 6 20", command.Remove (Only 5) (Only 6) 20)
    ∷ ("look 3 20", command.Look (Only 3) 20)
    ∷ ("near 3 15", command.Near (Only 3) 15)
    ∷ ("look 3 10", command.Look (Only 3) 10)
    ∷ ("ins 3 3 20 8", command.Insert (Only 3) (Only 3) 20 8)
    ∷ ("look 5 20", command.Look (Only 5) 20)
    ∷ ("del 5 1 20", command.Remove (Only 5) (Only 1) 20)
    ∷ ("upd - 7 0 65535", command.Update Everyone (Only 7) 0 65535)
    ∷ ("near - 4294967295", command.Near Everyone 4294967295)
    ∷ ("suite 1 1", command.Suite 1 1)
    ∷ ("suite 2 2 1 2 3 4 5 6 7 8 9", command.Suite 2 2)
    ∷ []

pub lines_give : map (λ (l : String × Command). command_of (ascii l.0)) lines ≡ map (λ (l : String × Command). Some l.1) lines
unfolding ascii onto words same is_digit decimals unpadded value_from numeral only argument padded given with_word with_nothing joined numbers reading changing removing created voting creating suite_asked command_in ballots_in given_with longest_line given_of command_of ballots_of
lines_give = refl

abbrev suites : List (String × Creation)
suites =
    ("suite 2 2 1 1 1", created 2 2 (1 ∷ 1 ∷ 1 ∷ []))
    ∷ ("suite 1 1", created 1 1 [])
    ∷ ("suite 2 2 1 2 3 4 5 6 7 8 9", created 2 2 (1 ∷ 2 ∷ 3 ∷ 4 ∷ 5 ∷ 6 ∷ 7 ∷ 8 ∷ 9 ∷ []))
    ∷ []

pub suites_give : map (λ (l : String × Creation). ballots_of (ascii l.0)) suites ≡ map (λ (l : String × Creation). Some l.1) suites
unfolding ascii onto words same is_digit decimals unpadded value_from numeral only argument padded given with_word with_nothing joined numbers reading changing removing created voting creating suite_asked command_in ballots_in given_with longest_line given_of command_of ballots_of
suites_give = refl

abbrev others : List String
others =
    ""
    ∷ "look"
    ∷ "look 6"
    ∷ "look 6 "
    ∷ "look 6 20 "
    ∷ "look  6 20"
    ∷ " look 6 20"
    ∷ "look 6 020"
    ∷ "look 6 -"
    ∷ "look 6 4294967296"
    ∷ "LOOK 6 20"
    ∷ "look 6 20 1"
    ∷ "look 6 2a"
    ∷ "suite 2"
    ∷ "suite - 2 1"
    ∷ "suite 2 2 -"
    ∷ "ins 3 3 20"
    ∷ "ins 3 3 - 7"
    ∷ "ins 3 3 20 -"
    ∷ "del 5 6 20 7"
    ∷ "look 6 20\r"
    ∷ "quit 1 2"
    ∷ []

pub others_give : map (λ (l : String). command_of (ascii l)) others ≡ map (λ (l : String). None) others
unfolding ascii onto words same is_digit decimals unpadded value_from numeral only argument padded given with_word with_nothing joined numbers reading changing removing created voting creating suite_asked command_in ballots_in given_with longest_line given_of command_of ballots_of
others_give = refl

pub others-ask : map (λ (l : String). ballots_of (ascii l)) others ≡ map (λ (l : String). None) others
unfolding ascii onto words same is_digit decimals unpadded value_from numeral only argument padded given with_word with_nothing joined numbers reading changing removing created voting creating suite_asked command_in ballots_in given_with longest_line given_of command_of ballots_of
others-ask = refl

abbrev answers : List (Reply × String)
answers =
    (SuiteOk, "suite ok\n")
    ∷ (Ok 1, "ok 1\n")
    ∷ (At 1 7, "at 1 7\n")
    ∷ (Removed 2 6, "ok 2 6\n")
    ∷ (Absent 2, "none 2\n")
    ∷ (Near 11 31 4, "10 30 4\n")
    ∷ (At 1 3, "at 1 3\n")
    ∷ (Ok 3, "ok 3\n")
    ∷ (At 3 8, "at 3 8\n")
    ∷ (Refused 9, "no 9\n")
    ∷ (Refused 10, "no 10\n")
    ∷ (Near 0 1048577 4, "LOW HIGH 4\n")
    ∷ (Near 1 1048576 4, "0 1048575 4\n")
    ∷ []

pub answers_say : map (λ (a : Reply × String). text_of a.0) answers ≡ map (λ (a : Reply × String). ascii a.1) answers
unfolding ascii digit decimal_on decimal high_end end_of saying text_of
answers_say = refl
