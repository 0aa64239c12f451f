-- Words that spell a number are texts.
mod WordLaws
