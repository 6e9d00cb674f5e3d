mod example_lemmas
mod test_lemmas
