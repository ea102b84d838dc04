-- The worked cases hold, by computation: document 01's starred ones, those for what they leave open, and those of change requests K5, K6, K8, K10 and K11.
-- Assumes nothing.
use mathlib.Core.Path.{refl}
use lib.Count.{ones_in}
use Rattle.words.specs.Word.{odd, bit, without, meets, popcount}
use Rattle.words.specs.Loop.{gather, bit_if, word, some, all, first_from, first, joined, listed}
use Rattle.scan.specs.Set.{zero_set, constraint, kind}
use Rattle.scan.specs.Names.{name_byte, all_name_bytes, name_length, name_bytes, place_ok, name_ok, name_zero, same_name, read_has_name, first_read, output_named, first_output, is_used}
use Rattle.scan.specs.Shape.{count_tests, length_tests, kind_ok, read_ok, read_zero, read_place, output_ok, output_place, rank_ok, constraint_tests, constraint_zero, constraint_place, set_tests, well_formed}
use Rattle.scan.specs.Constraint.{reads_true, outs_true, is_true, simple, combined, true_at, safe, has_vector}
use Rattle.scan.specs.Holds.{holding, to_zero, to_one, F0, F1, both_ways, reckoned, unheld_by, unheld, unheld_count, start_from, start_vector}
use Rattle.scan.specs.Pass.{lowest, has_rank, yielding, yields, fires, flips, pass}
use Rattle.scan.specs.Walk.{walk_by, walk}
use Rattle.shape.specs.Spelling.{spelling}
use Rattle.shape.specs.Finding.{find_padded, find_of}
use Rattle.machine.specs.Past.{reading_at, read_word}
use Rattle.machine.specs.Machine.{state_ok, is_past, sensor_ok, request_ok, scan_of}
use Rattle.machine.specs.History.{run}
use Rattle.verdict.specs.Judge.{endless, lacks, has_endless, none_at, vector_at, endless_at, judge_words, scratch_bytes, judge_of}
use Rattle.verdict.specs.FirstFailing.{fails, rejection_by, rejection, verdict_at, first_failing}
use Rattle.start.specs.Start.{start_of}
use Rattle.header.specs.Header.{raw_of, header_of}
use Rattle.header.specs.Tag.{names_high}
use Rattle.literal.specs.Literal.{narrows, wides, with_literal, literals_from}
use Rattle.loader.specs.Load.{counts_at, name_field, kind_of, read_field, read_of, read_at, reads_from, output_of, output_at, outputs_from, rest_at, constraint_at, constraints_from, load_from, load_of}
use Rattle.writer.specs.Write.{fields_of, rest_field, write_of, literals_by, read_literal as read_bytes, output_literal as output_bytes}
use Rattle.decimal.specs.Decimal.{leading, decimal}
use Rattle.text.specs.Text.{rest_line, read_literal, output_literal, never_line, shown_lines, spaced_words, lines_text, text_of}
use Rattle.promise.specs.Clash.{judge_unnamed}
use Rattle.promise.specs.Cases.{AllAnswered, starred, further, order_cases, rest_cases, scratch_cases, clash_cases, twenty_cases, scan_cases, find_cases, text_cases}

pub starred_hold : AllAnswered starred
unfolding ones_in odd bit without meets popcount gather bit_if word some all first_from first zero_set constraint kind name_byte name_length place_ok name_ok
    name_zero same_name read_has_name first_read output_named first_output count_tests length_tests kind_ok read_ok read_zero read_place output_ok output_place rank_ok
    constraint_tests constraint_zero constraint_place set_tests well_formed reads_true outs_true is_true simple combined true_at safe holding to_zero to_one F0
    F1 both_ways reckoned unheld_by unheld unheld_count start_from start_vector lowest has_rank yielding yields fires flips pass walk_by walk reading_at read_word state_ok is_past
    sensor_ok request_ok scan_of run has_vector endless lacks has_endless none_at vector_at endless_at judge_words scratch_bytes judge_of start_of
starred_hold = refl

pub further_hold : AllAnswered further
unfolding ones_in odd bit without meets popcount gather bit_if word some all first_from first zero_set constraint kind name_byte name_length place_ok name_ok
    name_zero same_name read_has_name first_read output_named first_output count_tests length_tests kind_ok read_ok read_zero read_place output_ok output_place rank_ok
    constraint_tests constraint_zero constraint_place set_tests well_formed reads_true outs_true is_true simple combined true_at safe holding to_zero to_one F0
    F1 both_ways reckoned unheld_by unheld unheld_count start_from start_vector lowest has_rank yielding yields fires flips pass walk_by walk reading_at read_word state_ok is_past
    sensor_ok request_ok scan_of run has_vector endless lacks has_endless none_at vector_at endless_at judge_words scratch_bytes judge_of start_of
    raw_of header_of spelling name_field kind_of read_field read_of read_at reads_from output_of output_at outputs_from rest_at names_high narrows wides with_literal literals_from constraint_at
    constraints_from counts_at load_from load_of all_name_bytes is_used
further_hold = refl

pub orders_worked : AllAnswered order_cases
unfolding ones_in odd bit without meets popcount gather bit_if word some all first_from first zero_set constraint kind name_byte name_length place_ok name_ok
    name_zero same_name read_has_name first_read output_named first_output count_tests length_tests kind_ok read_ok read_zero read_place output_ok output_place rank_ok
    constraint_tests constraint_zero constraint_place set_tests well_formed reads_true outs_true is_true simple combined true_at safe holding to_zero to_one F0
    F1 both_ways reckoned unheld_by unheld unheld_count start_from start_vector lowest has_rank yielding yields fires flips pass walk_by walk reading_at read_word state_ok is_past
    sensor_ok request_ok scan_of run has_vector endless lacks has_endless none_at vector_at endless_at judge_words fails rejection_by rejection verdict_at first_failing scratch_bytes judge_of start_of
    raw_of header_of spelling name_field kind_of read_field read_of read_at reads_from output_of output_at outputs_from rest_at names_high narrows wides with_literal literals_from constraint_at
    constraints_from counts_at load_from load_of all_name_bytes is_used
orders_worked = refl

pub rests_worked : AllAnswered rest_cases
unfolding ones_in odd bit without meets popcount gather bit_if word some all first_from first zero_set constraint kind name_byte name_length place_ok name_ok
    name_zero same_name read_has_name first_read output_named first_output count_tests length_tests kind_ok read_ok read_zero read_place output_ok output_place rank_ok
    constraint_tests constraint_zero constraint_place set_tests well_formed reads_true outs_true is_true simple combined true_at safe holding to_zero to_one F0
    F1 both_ways reckoned unheld_by unheld unheld_count start_from start_vector lowest has_rank yielding yields fires flips pass walk_by walk reading_at read_word state_ok is_past
    sensor_ok request_ok scan_of run has_vector endless lacks has_endless none_at vector_at endless_at judge_words scratch_bytes judge_of start_of
    raw_of header_of spelling name_field kind_of read_field read_of read_at reads_from output_of output_at outputs_from rest_at names_high narrows wides with_literal literals_from constraint_at
    constraints_from counts_at load_from load_of all_name_bytes is_used
rests_worked = refl

pub scratch_worked : AllAnswered scratch_cases
unfolding ones_in odd bit without meets popcount gather bit_if word some all first_from first zero_set constraint kind name_byte name_length place_ok name_ok
    name_zero same_name read_has_name first_read output_named first_output count_tests length_tests kind_ok read_ok read_zero read_place output_ok output_place rank_ok
    constraint_tests constraint_zero constraint_place set_tests well_formed reads_true outs_true is_true simple combined true_at safe holding to_zero to_one F0
    F1 both_ways reckoned unheld_by unheld unheld_count start_from start_vector lowest has_rank yielding yields fires flips pass walk_by walk reading_at read_word state_ok is_past
    sensor_ok request_ok scan_of run has_vector endless lacks has_endless none_at vector_at endless_at judge_words scratch_bytes judge_of start_of
scratch_worked = refl

pub clashes_worked : AllAnswered clash_cases
unfolding ones_in odd bit without meets popcount gather bit_if word some all first_from first zero_set constraint kind name_byte name_length place_ok name_ok
    name_zero same_name read_has_name first_read output_named first_output count_tests length_tests kind_ok read_ok read_zero read_place output_ok output_place rank_ok
    constraint_tests constraint_zero constraint_place set_tests well_formed reads_true outs_true is_true simple combined true_at safe holding to_zero to_one F0
    F1 both_ways reckoned unheld_by unheld unheld_count start_from start_vector lowest has_rank yielding yields fires flips pass walk_by walk reading_at read_word state_ok is_past
    sensor_ok request_ok scan_of run has_vector endless lacks has_endless none_at vector_at endless_at judge_words fails rejection_by rejection verdict_at first_failing scratch_bytes judge_of judge_unnamed start_of
clashes_worked = refl

pub twenty_worked : AllAnswered twenty_cases
unfolding ones_in odd bit without meets popcount gather bit_if word some all joined listed first_from first zero_set constraint kind name_byte name_length name_bytes place_ok name_ok
    name_zero same_name read_has_name first_read output_named first_output count_tests length_tests kind_ok read_ok read_zero read_place output_ok output_place rank_ok
    constraint_tests constraint_zero constraint_place set_tests well_formed reads_true outs_true is_true simple combined true_at safe holding to_zero to_one F0
    F1 both_ways reckoned unheld_by unheld unheld_count start_from start_vector lowest has_rank yielding yields fires flips pass walk_by walk reading_at read_word state_ok is_past
    sensor_ok request_ok scan_of run raw_of header_of spelling name_field kind_of read_field read_of read_at reads_from output_of output_at outputs_from rest_at names_high narrows wides
    with_literal literals_from constraint_at constraints_from counts_at load_from load_of all_name_bytes is_used read_bytes output_bytes literals_by fields_of rest_field write_of
twenty_worked = refl

pub scans_worked : AllAnswered scan_cases
unfolding ones_in odd bit without meets popcount gather bit_if word some all first_from first zero_set constraint kind name_byte all_name_bytes name_length
    place_ok name_ok name_zero same_name read_has_name first_read output_named first_output count_tests length_tests kind_ok read_ok read_zero read_place output_ok
    output_place rank_ok constraint_tests constraint_zero constraint_place set_tests well_formed reads_true outs_true is_true simple combined true_at safe
    holding to_zero to_one F0 F1 both_ways reckoned unheld_by unheld unheld_count start_from start_vector lowest has_rank yielding yields fires flips pass walk_by walk reading_at
    read_word state_ok is_past sensor_ok request_ok scan_of run
scans_worked = refl

pub finds_worked : AllAnswered find_cases
unfolding odd bit some all first_from first zero_set constraint name_byte all_name_bytes name_length place_ok name_ok name_zero same_name read_has_name first_read
    output_named first_output count_tests length_tests kind_ok read_ok read_zero read_place output_ok output_place rank_ok constraint_tests constraint_zero
    constraint_place set_tests well_formed find_padded find_of
finds_worked = refl

pub texts_worked : AllAnswered text_cases
unfolding ones_in odd bit popcount some all joined first_from first name_byte all_name_bytes name_length name_bytes same_name read_has_name first_read output_named
    first_output is_used count_tests zero_set raw_of header_of spelling name_field kind_of read_field read_of read_at reads_from output_of output_at outputs_from rest_at names_high narrows
    wides with_literal literals_from constraint_at constraints_from counts_at load_from load_of leading decimal rest_line read_literal output_literal never_line shown_lines spaced_words
    lines_text text_of
texts_worked = refl
